-- Which datafiles need a backup.
use Rattle.std.specs.Prelude.{IfSome, option_and_then}
use Rattle.std.proofs.Common.{◌≡◌, ◌<◌, ◌↔◌, ◌+◌, ◌-◌, ◌∙◌, ℕ, List, [], ◌∷◌, ◌++◌, Option, Some, None, IsTrue, Bool, true, cond, ap, sym, subst, arith, length, map, max}
use Rattle.std.proofs.lemmas.Option.{slice_get_within}
use Rattle.rm_apply.specs.Files.{AreExactly}
use Rattle.rm_base.specs.Store.{Held}
use Rattle.rm_evidence.specs.declared.evidence.Evidence.{Evidence}
use Rattle.rm_history.specs.{Tree.{end_of}, World.{exists, file_of}, declared.world.{Datafile.{Datafile}, World.{World}}}
use Rattle.rm_history.proofs.Worlds.{file-there}
use Rattle.rm_report.specs.declared.line.Line.{Line}
use Rattle.rm_report.specs.declared.line.Line.TheVariants as line
use Rattle.rm_retain.specs.{Chosen.{chosen, wanted}, Obsolete.{IsOnPath}}
use Rattle.rm_lang_statement.specs.declared.command.Command.TheVariants.{ReportNeedBackup}
use Rattle.rm_machine.specs.{Effect.{told}, Hands.{Tells}, Obsolete.{NeedsBackup, retention_of}, Recovery.{IsAtHand}}
use Rattle.rm_machine.{specs.{State.{current_of, ledger, now_of, on_path, world}, declared.state.State.{State}}, proofs.Tracked.{on-path}}
use Rattle.rm_catalog_typed.proofs.Records.{world-told}

module _ (s : State) (e : Evidence) where
  abbrev by_state : World → ℕ → Datafile → Bool
  by_state w f d = exists w (current_of s) (end_of w.tree (current_of s)) d

  -- by the records a datafile is on the current path where the state has it there
  on-it : (f : ℕ) (d : Datafile) → on_path s f ≡ Some d → IsOnPath (retention_of s e) f
  on-it f d is =
      let at = on-path s f d is in
      record { datafile = d; is = ap (λ (w : World). file_of w f) (world-told s.catalog) ∙ at.0; exists = ap (λ (w : World). by_state w f d) (world-told s.catalog) ∙ at.1 }

  found : (f : ℕ) (on : IsOnPath (retention_of s e) f) → file_of (world s) f ≡ Some on.datafile
  found f on = ap (λ (w : World). file_of w f) (sym (world-told s.catalog)) ∙ on.is

  off-it : (f : ℕ) → on_path s f ≡ None → ¬ IsOnPath (retention_of s e) f
  off-it f none on =
      let d = on.datafile in
      let here : exists (world s) (current_of s) (now_of s) d ≡ true = ap (λ (w : World). by_state w f d) (sym (world-told s.catalog)) ∙ on.exists in
      let some : on_path s f ≡ Some d = ap (option_and_then (λ (x : Datafile). cond (exists (world s) (current_of s) (now_of s) x) (Some x) None)) (found f on) ∙ ap (λ b. cond b (Some d) None) here in
      let clash : None ≡ Some d = sym none ∙ some in
      absurd cc

  pub needs-on : (f : ℕ) (d : Datafile) (few : Bool) → on_path s f ≡ Some d → IsTrue few ↔ (length (chosen (retention_of s e) f) < max 1 (wanted (ledger s).base.policy)) → IsTrue few ↔ NeedsBackup (retention_of s e) f
  needs-on f d few is tells = ((λ yes. record { on = on-it f d is; few = tells.0 yes }), (λ needs. tells.1 needs.few))

  pub needs-off : (f : ℕ) → on_path s f ≡ None → ¬ NeedsBackup (retention_of s e) f
  needs-off f none needs = off-it f none needs.on

  -- it is one of the datafiles
  pub needs-number : (f : ℕ) → NeedsBackup (retention_of s e) f → (0 < f) × (f < length (ledger s).files + 1)
  needs-number f needs =
      let at = file-there (world s) f needs.on.datafile (found f needs.on) in
      let low = at.0 in
      let inside = slice_get_within (ledger s).files (f - 1) needs.on.datafile at.1 in
      (low, omega (arith, low, inside))

  -- and so the reply
  pub need-tells : (held : Option Held) (files : List ℕ) (lines : List Line) → IfSome held (λ h. IsAtHand s h e) → AreExactly (NeedsBackup (retention_of s e)) files → lines ≡ map line.NeedsBackup files ++ line.NeedCount (length files) ∷ []
      → Tells held s ReportNeedBackup lines
  need-tells held files lines here exact is = λ objects tells. record {
    evidence = e;
    at_hand = subst (λ (o : Option Held). IfSome o (λ h. IsAtHand s h e)) tells here;
    files = files;
    exact = exact;
    is = ap told is;
  }
