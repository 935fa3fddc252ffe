-- Statements that put nothing and take nothing away.
use Rattle.std.proofs.Common.{◌≡◌, ◌⊎◌, ℕ, List, [], Option, Some, None, Bool, true, inl, inr}
use Rattle.rm_base.specs.Store.{Held}
use Rattle.rm_lang_statement.specs.declared.command.Command.{Command}
use Rattle.rm_lang_statement.specs.declared.command.Command.TheVariants.{BlockRecover, Corrupt, CreateDatafile, LoseDatafile, LoseLog, Mount, OpenPlain, Parallelism, Recover, ResetDatabase, Restore, Retention, SwitchThread, Tracking, Write}
use Rattle.rm_lang_statement.specs.declared.command.{RepairForm.{RepairForm}, RetentionForm.{RetentionForm}, Until.{Until}}
use Rattle.rm_lang_statement.specs.declared.command.WriteForm.{WriteForm}
use Rattle.rm_evidence.specs.declared.evidence.Evidence.{Evidence}
use Rattle.rm_report.specs.declared.line.Line.{Line}
use Rattle.rm_machine.specs.{Configure.{policy_of, with_channels, with_policy}, BlockRecover.{MendsBlocks, MissesBlock}}
use Rattle.rm_machine.specs.{Corrupt.{corrupted}, Effect.{Effect, done, no_effect}, EnableThread.{with_thread_on}, Laws.{only_tells}}
use Rattle.rm_machine.specs.{LoseDatafile.{without_file}, LoseLog.{without_log}, Mount.{as_mounted}, Open.{opened}}
use Rattle.rm_machine.specs.{ResetDatabase.{at_incarnation}, State.{now_of}, CreateDatafile.{with_datafile}}
use Rattle.rm_machine.specs.{Recover.{RecoversTo, recover_target, recovered}, Restore.{RestoresTo, restored}, Step.{IsDone, refusal_of}}
use Rattle.rm_machine.specs.{Tracking.{with_tracking}, Upkeep.{with_catalog}, Sound.{IsSound}, declared.state.State.{State}}
use Rattle.rm_machine_laws.{specs.Loose.{IsLoose, StaysLoose}, proofs.{Leading.{done-by}, Telling.{never-done}, Loosening.{nothing-named}}}

pub quiet-loose : (s : State) (c : Command) (lines said : List Line) (e : Effect) (q t : State) → done lines e t ≡ done said no_effect q → IsLoose (Some s) c e t
quiet-loose s c lines said e q t is = nothing-named (Some s) c e t (let puts : e.puts ≡ [] = cc in puts) (let removes : e.removes ≡ [] = cc in removes)

-- what was not refused, and was done
pub loose-done : (c : Command) → ((s : State) (held : Held) (lines : List Line) (e : Effect) (t : State) → IsSound s → refusal_of s c ≡ None → IsDone s held c (done lines e t) → IsLoose (Some s) c e t) → StaysLoose c
loose-done c by s held lines e t sound comes =
    let both = done-by (refusal_of s c) s held c lines e t comes in
    by s held lines e t sound both.0 both.1

pub write-loose : (w : WriteForm) → StaysLoose (Write w)
write-loose w = loose-done (Write w) (λ s held lines e t sound none is. nothing-named (Some s) (Write w) e t (cc) (cc))

pub mount-loose : StaysLoose Mount
mount-loose = loose-done Mount (λ s held lines e t sound none is. quiet-loose s Mount lines _ e (as_mounted s) t is)

pub open-loose : StaysLoose OpenPlain
open-loose = loose-done OpenPlain (λ s held lines e t sound none is. quiet-loose s OpenPlain lines _ e (opened s (now_of s)) t is)

pub choose-loose : (i : ℕ) → StaysLoose (ResetDatabase i)
choose-loose i = loose-done (ResetDatabase i) (λ s held lines e t sound none is. quiet-loose s (ResetDatabase i) lines _ e (at_incarnation s i) t is)

pub create-loose : (blocks : ℕ) → StaysLoose (CreateDatafile blocks)
create-loose blocks = loose-done (CreateDatafile blocks) (λ s held lines e t sound none is. quiet-loose s (CreateDatafile blocks) lines _ e (with_datafile s blocks) t is)

pub retention-loose : (form : RetentionForm) → StaysLoose (Retention form)
retention-loose form = loose-done (Retention form) (λ s held lines e t sound none is. quiet-loose s (Retention form) lines _ e (with_catalog s (with_policy s.catalog (policy_of form))) t is)

pub parallelism-loose : (channels : ℕ) → StaysLoose (Parallelism channels)
parallelism-loose channels = loose-done (Parallelism channels) (λ s held lines e t sound none is. quiet-loose s (Parallelism channels) lines _ e (with_catalog s (with_channels s.catalog channels)) t is)

pub tracking-loose : (on : Bool) → StaysLoose (Tracking on)
tracking-loose on = loose-done (Tracking on) (λ s held lines e t sound none is. quiet-loose s (Tracking on) lines _ e (with_tracking s on) t is)

pub enable-loose : (t : ℕ) → StaysLoose (SwitchThread t true)
enable-loose t = loose-done (SwitchThread t true) (λ s held lines e q sound none is. quiet-loose s (SwitchThread t true) lines _ e (with_thread_on s t) q is)

pub lose-loose : (f : ℕ) → StaysLoose (LoseDatafile f)
lose-loose f = loose-done (LoseDatafile f) (λ s held lines e t sound none is. quiet-loose s (LoseDatafile f) lines _ e (without_file s f) t is)

pub lose_log-loose : (thread : ℕ) → StaysLoose (LoseLog thread)
lose_log-loose thread = loose-done (LoseLog thread) (λ s held lines e t sound none is. quiet-loose s (LoseLog thread) lines _ e (without_log (as_mounted s) thread) t is)

recover-by : (o : Option ℕ) (until : Option Until) (s : State) (held : Held) (lines : List Line) (e : Effect) (t : State) → RecoversTo s held o (done lines e t) → IsLoose (Some s) (Recover until) e t
recover-by None until s held lines e t does = absurd does
recover-by (Some at) until s held lines e t (inl found) = absurd (let clash = found.is in cc)
recover-by (Some at) until s held lines e t (inr all) = quiet-loose s (Recover until) lines _ e (recovered s at all.back.files) t all.is

pub recover-loose : (until : Option Until) → StaysLoose (Recover until)
recover-loose until = loose-done (Recover until) (λ s held lines e t sound none does. recover-by (recover_target s until) until s held lines e t does)

restore-by : (o file : Option ℕ) (until : Option Until) (s : State) (held : Held) (lines : List Line) (e : Effect) (t : State) → RestoresTo s held file o (done lines e t) → IsLoose (Some s) (Restore file until) e t
restore-by None file until s held lines e t does = absurd does
restore-by (Some at) file until s held lines e t does = quiet-loose s (Restore file until) lines _ e (restored s does.back.files) t does.is

pub restore-loose : (file : Option ℕ) (until : Option Until) → StaysLoose (Restore file until)
restore-loose file until = loose-done (Restore file until) (λ s held lines e t sound none does. restore-by (recover_target s until) file until s held lines e t does)

pub corrupt-loose : (f b : ℕ) → StaysLoose (Corrupt f b)
corrupt-loose f b = loose-done (Corrupt f b) (λ s held lines e t sound none does. quiet-loose s (Corrupt f b) lines _ e (corrupted s f does.0) t does.2)

repair-by : (form : RepairForm) (s : State) (evidence : Evidence) (lines : List Line) (e : Effect) (t : State) → MissesBlock s evidence form (done lines e t) ⊎ MendsBlocks s evidence form (done lines e t) → IsLoose (Some s) (BlockRecover form) e t
repair-by form s evidence lines e t (inl misses) = absurd (let clash = misses.is in cc)
repair-by form s evidence lines e t (inr it) = let is = it.is in nothing-named (Some s) (BlockRecover form) e t (let puts : e.puts ≡ [] = cc in puts) (let removes : e.removes ≡ [] = cc in removes)

pub repair-loose : (form : RepairForm) → StaysLoose (BlockRecover form)
repair-loose form = loose-done (BlockRecover form) (λ s held lines e t sound none does. repair-by form s does.evidence lines e t does.comes)

-- what only tells is never done
pub told-loose : (c : Command) → only_tells c ≡ true → StaysLoose c
told-loose c only = loose-done c (λ s held lines e t sound none is. absurd (never-done c only s held lines e t is))
