-- DELETE OBSOLETE leads on, keeps the targets of the window, and a second time finds nothing.
use Rattle.std.{specs.List.{flat_map}, proofs.Common.{◌≡◌, ◌∙◌, ℕ, List, [], ap, sym, subst}}
use Rattle.rm_base.specs.Store.{Held}
use Rattle.rm_report.specs.declared.line.Line.{Line}
use Rattle.rm_lang_statement.specs.declared.command.Command.TheVariants.{DeleteObsolete}
use Rattle.rm_machine.specs.{Effect.{Effect, LeavesObjects, done}, Names.{IsObjectName}}
use Rattle.rm_machine.specs.{Obsolete.{AreObsoleteIn, IsDeleteObsoleteOutcome, IsSafe}, Sound.{IsSound}}
use Rattle.rm_machine.specs.{Upkeep.{names_at, removing, with_catalog, without_all}, declared.state.State.{State}}
use Rattle.rm_machine.proofs.Entries.{with_entries}
use Rattle.rm_machine_laws.proofs.Cleared.{is-safe, none-again, entries-left}
use Rattle.rm_machine_laws.proofs.{Deleting.{AreGone, all-gone, gone-on, gone-stays, object-stays}, Leading.{LeadsOnBy, StaysBy}}

module _ (s : State) (ids : List ℕ) where
  -- the names of the objects that go
  abbrev pub names_of : List (List ℕ)
  names_of = flat_map (λ n. names_at n s.catalog) ids

  pub are-gone : AreGone s.catalog ids names_of
  are-gone = all-gone s.catalog ids ids (λ n among. among)

module _ (s : State) (objects : Held) (said : List Line) (e : Effect) (t : State) (after : Held) (sound : IsSound s) (does : IsDeleteObsoleteOutcome s objects (done said e t)) (effect : LeavesObjects e objects after) where
  -- what the records that are left name stays
  object-left : (name : List ℕ) → IsObjectName (without_all does.ids s.catalog).ledger name → after name ≡ objects name
  object-left =
      let is = does.is in
      let is_effect : removing (names_of s does.ids) ≡ e = cc in
      object-stays s.catalog sound.catalog does.ids (names_of s does.ids) (are-gone s does.ids) objects after (subst (λ (x : Effect). LeavesObjects x objects after) (sym is_effect) effect)

  pub finds-nothing : (ids : List ℕ) → AreObsoleteIn t after ids → ids ≡ []
  finds-nothing ids again =
      let is = does.is in
      let is_state : with_catalog s (without_all does.ids s.catalog) ≡ t = cc in
      let same : t ≡ with_catalog s (with_entries s.catalog (without_all does.ids s.catalog).ledger.logs (without_all does.ids s.catalog).ledger.pieces (without_all does.ids s.catalog).ledger.sets) = sym is_state ∙ ap (with_catalog s) (entries-left does.ids s.catalog) in
      none-again s does.ids sound objects after object-left does.are ids (subst (λ (q : State). AreObsoleteIn q after ids) same again)

pub obsolete-on : LeadsOnBy DeleteObsolete
obsolete-on s h objects made touched said e t after well borne tell none does effect =
    let is_state : with_catalog s (without_all does.ids s.catalog) ≡ t = (let one = does.is in cc) in (
      gone-on s does.ids (names_of s does.ids) h objects made touched _ said e t after (are-gone s does.ids) borne does.is effect,
      subst (λ (q : State). IsSafe s objects q after) is_state
          (is-safe s does.ids borne.state objects after (object-left s objects said e t after borne.state does effect) h made touched borne tell does.are),
    )

pub obsolete-stays : StaysBy DeleteObsolete
obsolete-stays s objects said e t well sound unsaved none does = gone-stays s does.ids (names_of s does.ids) _ said e t sound unsaved does.is
