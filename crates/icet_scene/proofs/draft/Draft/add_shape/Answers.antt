use Rattle.std.proofs.lemmas.List.Elements.{All-push}
use Rattle.icet_scene.proofs.Growth.{shape_body}
use Rattle.std.proofs.Common.{◌≤◌, ◌-◌}
use Rattle.icet_raster.specs.Shapes.{drawing_of, IsInRange}
use Rattle.icet_scene_model.specs.Lawful.{IsPainted}
use Rattle.icet_scene.proofs.draft.Draft.add_shape.Goals as goal

pub returns-clause-place : goal.returns-clause-place
returns-clause-place c =
    let d = c.args.self.now in
    let h = shape_body d c.requires.line.stands c.requires.place in
    record {
      sound = record { maxval = h.sound.maxval; known = h.sound.known; depth = h.sound.depth; paint = h.sound.paint };
      ranked = record { some = h.ranked.some; few = h.ranked.few };
      ordered = record { each = h.ordered.each };
      some = h.some;
      few = h.few;
      areas = h.areas;
      distinct = h.distinct;
      displays = h.displays;
      drawers = rw c.in_ok-push.ensures.items (All-push (λ shape. shape.0 ≤ d.ranks - 1) d.shapes.items (c.args.rank, c.args.shape) h.drawers c.requires.line.lawful.0);
      in_range = rw c.in_ok-push.ensures.items (All-push (λ shape. IsInRange shape.1) d.shapes.items (c.args.rank, c.args.shape) h.in_range c.requires.line.lawful.1);
      painted = rw c.in_ok-push.ensures.items (All-push (λ shape. IsPainted d.maxval (drawing_of shape.1)) d.shapes.items (c.args.rank, c.args.shape) h.painted c.requires.line.lawful.2);
    }
