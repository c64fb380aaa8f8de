use Rattle.std.proofs.Common.{arith}
use Rattle.std.proofs.lemmas.List.{take_all}
use Rattle.std.proofs.lemmas.Grind.{common_steps, elements}
use Rattle.icet_scene.proofs.scene.own_shapes.Goals as goal

pub loop-drawer-preserved : goal.loop-drawer-preserved
loop-drawer-preserved c = (grind (arith, common_steps), grind (arith, elements))

pub returns-clause-in_range : goal.returns-clause-in_range
returns-clause-in_range c = c.loop-drawer.invariant.1

pub returns-clause-shapes : goal.returns-clause-shapes
returns-clause-shapes c = rw (take_all c.loop-drawer.drawer-index c.args.shapes.now c.loop-drawer-test.false) at c.loop-drawer.invariant.0
