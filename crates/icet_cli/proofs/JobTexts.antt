-- What the writers of the jobs leave is what a run promises of its job.
use Rattle.std.proofs.Common.{◌≡◌, List, [], ◌++◌, Ok, Err, inl, inr, refl, sym, ap, ◌∙◌}
use Rattle.std.proofs.lemmas.List.{append-nil}
use Rattle.icet_model.specs.Core.{start}
use Rattle.icet_model.specs.Pixel.{Pixel}
use Rattle.icet_model.specs.Plan.{PlanView, plan_exchanges}
use Rattle.icet_model.specs.Replay.{replay_from, replay_text}
use Rattle.icet_model.specs.Streams.{SinkView, WritesAll}
use Rattle.icet_model.specs.Traffic.{PairTraffic}
use Rattle.icet_scene_model.specs.Jobs.{composite_text}
use Rattle.icet_scene_model.specs.Printed.{upgraded}
use Rattle.icet_scene_model.specs.Ready.{ready_scene}
use Rattle.icet_scene_model.specs.Scene.{SceneView}
use Rattle.icet_scene_model.specs.Texts.{SceneText, Text}
use Rattle.icet_scene_model.specs.declared.fault.SceneFault.{SceneFault}
use Rattle.icet_scene_model.specs.declared.fault.SceneFault.TheVariants.{TooLong, BadByte, BadLine, OutOfPlace, OutOfRange, NotPremultiplied, RankTaken, BadOrder, Missing, TooLarge, NoMemory}
use Rattle.icet_scene.specs.Readings.{IsFaultOfText}
use Rattle.icet_words.specs.CommandLine.{Command}
use Rattle.icet_words.specs.declared.job.Job.{Job}
use Rattle.icet_words.specs.declared.job.Job.TheVariants.{Composite, Traffic, Plan, Replay, Summary, Demo, Upgrade}
use Rattle.icet_base.specs.declared.faults.WriteFault.{WriteFault}
use Rattle.icet_plan_text.specs.PlanTexts.{plan_text, traffic_text}
use Rattle.icet_jobs.specs.Composites.{IsPlanFor, brackets_of, composite_traffic}
use Rattle.icet_jobs.specs.Texts.{WritesText}
use Rattle.icet_jobs.specs.declared.replay.JobFault.{JobFault}
use Rattle.icet_jobs.specs.declared.replay.JobFault.TheVariants.{Write as JobWrite, NoMemory as JobMemory}
use Rattle.icet_jobs.proofs.PlanExchanges.{plan_exchanges_are}
use Rattle.icet_cli.specs.FaultNotes.{of_job, of_scene}
use Rattle.icet_cli.specs.JobEndings.{EndsWith, Shown, SumsUp, shown}
use Rattle.icet_cli.specs.Outcome.{text_for, job_text, summary_for, traffic_for, job_traffic}

module _ (command : Command) (scene : SceneView) where
  job_is : (job : Job) → command.job ≡ job → text_for job command scene ≡ job_text command scene
  job_is job e = sym (ap (λ j. text_for j command scene) e)

  module _ (plan : PlanView) (is : IsPlanFor command.settings scene plan) where
    pub replay_is : command.job ≡ Replay → replay_text plan command.cap command.schedule ≡ job_text command scene
    replay_is job = ap (λ all. replay_from all command.cap (start all) command.schedule) (plan_exchanges_are command.settings scene plan is) ∙ job_is Replay job

    pub traffic_is : command.job ≡ Traffic → traffic_text (plan_exchanges plan) ≡ job_text command scene
    traffic_is job = ap traffic_text (plan_exchanges_are command.settings scene plan is) ∙ job_is Traffic job

    pub plan_is : command.job ≡ Plan → plan_text plan.brackets (plan_exchanges plan) ≡ job_text command scene
    plan_is job = ap (λ bs. plan_text bs (plan_exchanges plan)) is.brackets ∙ ap (plan_text (brackets_of command.settings scene)) (plan_exchanges_are command.settings scene plan is) ∙ job_is Plan job

  -- a job that makes no picture leaves the wires as they were
  carries_nothing : (log : List (PairTraffic (List Pixel))) (job : Job) → command.job ≡ job → traffic_for job command scene ≡ [] → log ≡ log ++ job_traffic command scene
  carries_nothing log job e none = sym (append-nil log) ∙ ap (λ t. log ++ t) (sym none ∙ sym (ap (λ j. traffic_for j command scene) e))

  pub composite_is : command.job ≡ Composite → composite_text scene (brackets_of command.settings scene) ≡ job_text command scene
  composite_is job = job_is Composite job

  pub composite_carries : command.job ≡ Composite → composite_traffic command.settings command.strands scene ≡ job_traffic command scene
  composite_carries job = sym (ap (λ j. traffic_for j command scene) job)

  pub summary_is : SumsUp command.job → summary_for command scene ≡ job_text command scene
  summary_is (inl job) = job_is Summary job
  summary_is (inr job) = job_is Demo job

  pub summary_carries : SumsUp command.job → composite_traffic command.settings command.strands scene ≡ job_traffic command scene
  summary_carries (inl job) = sym (ap (λ j. traffic_for j command scene) job)
  summary_carries (inr job) = sym (ap (λ j. traffic_for j command scene) job)

  pub upgrade_is : command.job ≡ Upgrade → upgraded (ready_scene scene) ≡ job_text command scene
  upgrade_is job = job_is Upgrade job

  module _ {K : Type 0} (told : K → SinkView) (old new : K) (log : List (PairTraffic (List Pixel))) (job : Job) (is_job : command.job ≡ job) (none : traffic_for job command scene ≡ []) where
    pub job_written : WritesAll {E = WriteFault} (told old) (told new) (Ok tt) (job_text command scene) → EndsWith command (SceneText scene) (shown (told old) log) (shown (told new) log) (Ok tt)
    job_written w = record { scene = scene; valid = refl; wrote = w; log = carries_nothing log job is_job none }

    -- a text that was written in part
    pub job_failed : WritesAll {E = WriteFault} (told old) (told new) (Err (record {})) (job_text command scene) → EndsWith command (SceneText scene) (shown (told old) log) (shown (told new) log) (Err (of_job JobWrite))
    job_failed w = record { scene = scene; valid = refl; wrote = w; log = carries_nothing log job is_job none }

    -- a replay that wasn't written
    pub replay_failed : (fault : JobFault) → WritesText told old new (Err fault) (job_text command scene) → EndsWith command (SceneText scene) (shown (told old) log) (shown (told new) log) (Err (of_job fault))
    replay_failed JobWrite w = job_failed w
    replay_failed JobMemory w = ap (λ k. shown (told k) log) w

-- a text that is refused with a fault, or whose reading wants memory
pub scene_refused : (command : Command) (text : Text) (s : Shown) (fault : SceneFault) → IsFaultOfText fault text → EndsWith command text s s (Err (of_scene fault))
scene_refused command text s TooLong e = (e, refl)
scene_refused command text s (BadByte line) e = (e, refl)
scene_refused command text s (BadLine line) e = (e, refl)
scene_refused command text s (OutOfPlace line) e = (e, refl)
scene_refused command text s (OutOfRange line) e = (e, refl)
scene_refused command text s (NotPremultiplied line) e = (e, refl)
scene_refused command text s (RankTaken line) e = (e, refl)
scene_refused command text s (BadOrder line) e = (e, refl)
scene_refused command text s (Missing want) e = (e, refl)
scene_refused command text s TooLarge e = (e, refl)
scene_refused command text s NoMemory e = refl
