use Rattle.icet_cli.proofs.jobs.do_text.Goals as goal

pub returns-in-Replay-clause-ends : goal.returns-in-Replay-clause-ends
returns-in-Replay-clause-ends g c = rw c.in_ok-scene.ensures.reading (c.replay_scene.ensures.ends (g.W.Wires.log c.args.wires.now))

pub returns-in-Traffic-clause-ends : goal.returns-in-Traffic-clause-ends
returns-in-Traffic-clause-ends g c = rw c.in_ok-scene.ensures.reading (c.write_scene_traffic.ensures.ends (g.W.Wires.log c.args.wires.now))

pub returns-in-Plan-clause-ends : goal.returns-in-Plan-clause-ends
returns-in-Plan-clause-ends g c = rw c.in_ok-scene.ensures.reading (c.write_scene_plan.ensures.ends (g.W.Wires.log c.args.wires.now))

pub returns-in-Upgrade-clause-ends : goal.returns-in-Upgrade-clause-ends
returns-in-Upgrade-clause-ends g c = rw c.in_ok-scene.ensures.reading (c.upgrade_scene.ensures.ends (g.W.Wires.log c.args.wires.now))
