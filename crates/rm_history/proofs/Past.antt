-- A history that gains a change past the evidence.
use Rattle.std.proofs.{Common.{◌≡◌, ◌++◌, ◌∷◌, inl, inr, List, [], false, sym, Contains}, lemmas.Bool.{cases_Bool}}
use Rattle.rm_base.specs.declared.block.Change.{Change}
use Rattle.rm_history.specs.{Artefacts.{Log}, History.{IsHistory}, Agrees.{is_of}, Evidence.{Evidence, Agrees}, Growth.{IsPast}}
use Rattle.rm_history.{specs.declared.world.World.{World}, proofs.Growth.{BaseAgrees-grown, Level1Agrees-grown, LogAgrees-grown}}
use Rattle.rm_history.proofs.Logs.{is_of-parts}

past-logs : (w : World) (e : Evidence) (c : Change) → IsPast w e c → (a : Log) → Contains e.logs a → is_of a c ≡ false
past-logs w e c past a log = elim (cases_Bool (is_of a c)) [
  | inr other ↦ other
  | inl is ↦
      let of = is_of-parts a c is in
      absurd (past.logs a (record { log = log; inc = sym of.inc; first = of.first; next = of.next }) (sym of.thread))
]

pub past-agrees : (w : World) (h : List Change) (e : Evidence) (c : Change) → Agrees w h e → IsHistory w (h ++ c ∷ []) → IsPast w e c → Agrees w (h ++ c ∷ []) e
past-agrees w h e c agrees history past = record {
  bases = λ a base. BaseAgrees-grown w h c history a (agrees.bases a base) (past.bases a base);
  level1s = λ a level1. Level1Agrees-grown w h c history a (agrees.level1s a level1) (past.level1s a level1);
  logs = λ a log. LogAgrees-grown h c a (agrees.logs a log) (past-logs w e c past a log);
}
