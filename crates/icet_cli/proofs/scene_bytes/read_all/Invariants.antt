use Rattle.std.proofs.Common.{◌≡◌, ◌+◌, ◌-◌, vec_len}
use Rattle.icet_model.specs.declared.limits.TheConstants.{MAX_READ, MAX_SCENE_BYTES}
use Rattle.icet_cli.specs.SceneBytes.{HasRead}
use Rattle.icet_cli.proofs.scene_bytes.read_all.Given as goal

abbrev pub invariant-loop-source : goal.invariant-loop-source
invariant-loop-source g l = HasRead (g.S.Source.told l.initial.source) (g.S.Source.told l.source) l.all.items × (vec_len l.buffer ≡ MAX_READ)

abbrev pub decreases-loop-source : goal.decreases-loop-source
decreases-loop-source g l = MAX_SCENE_BYTES + 1 - vec_len l.all
