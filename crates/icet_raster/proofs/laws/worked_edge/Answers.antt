use Rattle.std.proofs.Common.{refl, pos, inl, inr}
use Rattle.icet_scene_model.specs.Triangles.{edge_value}
use Rattle.icet_raster.proofs.laws.worked_edge.Goals as goal

pub returns : goal.returns
unfolding edge_value
returns c = record {
  shared = record {
    p = record { x = pos 32; y = pos 0 };
    q = record { x = pos 0; y = pos 32 };
    r = record { x = pos 0; y = pos 0 };
    s = record { x = pos 32; y = pos 32 };
    one_is = inl (inr (inr refl));
    other_is = inr (inr (inl refl));
    opposite = inl (record { lt = tt }, record { lt = tt });
  };
  between = record { on_line = refl; inside = inl (inr (record { lt = tt }, record { lt = tt })) };
}
