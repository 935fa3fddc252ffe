-- Where it begins: an increment of a statement, a standby that is made, and one that is rolled.
use Rattle.std.proofs.Common.{◌≡◌, ◌≤◌, ◌∙◌, inl, inr, ℕ, List, Option, Some, None, true, false, refl, ap, sym, subst, arith, All}
use Rattle.std.proofs.lemmas.{Bool.{cases_lt}, List.Elements.{All-map}}
use Rattle.rm_base.{specs.{Store.{Held}, declared.{block.Change.{Change}, refusal.Refusal.{Refusal}}}, proofs.Conditions.{unless}}
use Rattle.rm_blocks.specs.File.{File}
use Rattle.rm_history.specs.{History.{IsHistory}, Tree.{IsTree, parent_of, reset_of}, declared.tree.Incarnation.{Incarnation}}
use Rattle.rm_catalog_typed.{specs.LedgerFacts.{AreIncarnations}, proofs.Trees.{parents_below}}
use Rattle.rm_piece.specs.{Rows.{from_on}, Sets.{IsSet}, declared.set.{Set.{Set}, SetFile.{SetFile}}}
use Rattle.rm_standby.{specs.{Image.{imaged}, Rolling.{Meets, rolled}, Standby.{HoldsSince, HoldsStates}}, proofs.Rolled.{rolled-holds}}
use Rattle.rm_lang_statement.specs.declared.command.{Command.TheVariants.{BackupFrom}, Until.TheVariants.{Scn}}
use Rattle.rm_report.specs.declared.line.{Line.{Line}, Reply.{Reply}}
use Rattle.rm_machine.specs.{Effect.{Outcome, done, refused, told}, Laws.{IsMomentOf}}
use Rattle.rm_machine.specs.{Machine.{IsBorneOut, IsSoundBy, IsSoundMachine, Machine}, RecoverTest.{is_no_incarnation, test_refusal}}
use Rattle.rm_machine.specs.{Rest.{catalog_in}, Roll.{increment, roll_member, roll_refusal, rolled_files}, Sound.{IsSound}}
use Rattle.rm_machine.specs.{State.{at_moment, current_of, ledger, tree, world}, Step.{IsOutcome, IsOutcomeBy, Step, StepBy, StepIn}}
use Rattle.rm_machine.{specs.declared.state.State.{State}, proofs.{Later.{sound-later}, Recovering.{in-range}, Rolling.{increment-valid}}}
use Rattle.rm_machine_laws.proofs.Leading.{done-by}
use Rattle.rm_standby_laws.specs.Lasting.{HoldsIn, HoldsOf, IsHeld, LiesWithin}

-- An increment

-- such a statement never only tells
pub told-not : (o : Option Refusal) (q : State) (held : Held) (scn : ℕ) (lines : List Line) → IsOutcomeBy o q held (BackupFrom scn) (told lines) → ⊥
told-not None q held scn lines is = absurd (cc)
told-not (Some r) q held scn lines is = absurd (cc)

-- one that was not refused was done, and what that means is known
roll-means : (m n : Machine) (q : State) (scn : ℕ) (reply : Reply) (o : Outcome) → IsOutcome q m.objects (BackupFrom scn) o
    → StepBy (Some q) m (BackupFrom scn) o reply n → reply.refused ≡ false
    → (roll_refusal q scn ≡ None) × HoldsSince (world q) m.history scn (increment q scn)
roll-means m n q scn reply (refused r) comes by accepted =
    absurd (let clash : true ≡ false = sym (ap (λ (x : Reply). x.refused) by.0) ∙ accepted in cc)
roll-means m n q scn reply (told lines) comes by accepted = absurd (told-not (roll_refusal q scn) q m.objects scn lines comes)
roll-means m n q scn reply (done lines e t) comes by accepted = ((done-by (roll_refusal q scn) q m.objects (BackupFrom scn) lines e t comes).0, by.2)

pub increment-held : (m n : Machine) (s : State) (scn moment : ℕ) (reply : Reply) → m.state ≡ Some s → IsSoundMachine m → IsMomentOf s moment
    → Step m (BackupFrom scn) moment reply n → reply.refused ≡ false
    → IsHeld m (from_on scn) (increment (at_moment s moment) scn)
increment-held m n s scn moment reply is sound at step accepted =
    let q : State = at_moment s moment in
    let by : StepIn (Some s) m (BackupFrom scn) moment reply n = subst (λ o. StepIn o m (BackupFrom scn) moment reply n) is step in
    let known = roll-means m n q scn reply by.0 by.1 by.2 accepted in
    let borne : IsBorneOut s m.history m.objects m.made m.touched = subst (λ o. IsSoundBy o m.history m.objects m.made m.touched) is sound in
    let holds : HoldsIn (world s) m.history (from_on scn) (increment q scn) = record {
      within = record { there = borne.state.catalog.ledger.current; end = omega arith };
      valid = increment-valid q scn (sound-later s moment borne.state at) known.0;
      holds = known.1.holds;
    } in
    subst (λ o. HoldsOf (catalog_in o) m.history (from_on scn) (increment q scn)) (sym is) holds

pub increment-begins : (s : State) (scn : ℕ) → All (λ m. m.piece.from ≡ scn) (increment s scn).members
increment-begins s scn = All-map (λ (m : SetFile). m.piece.from ≡ scn) (roll_member s scn) (rolled_files s) (λ k d inside. refl)

-- A standby that is made

pub made-held : (s : State) (h : List Change) (until : ℕ) (files : List File) (new : Set) → IsSound s → test_refusal s (Some (Scn until)) None ≡ None
    → new ≡ imaged (world s) (ledger s).base.dbid (current_of s) until files
    → IsSet new → HoldsStates (world s) h new → HoldsIn (world s) h (λ rows. rows) new
made-held s h until files new sound none is valid holds =
    let range = in-range (tree s) (current_of s) until (unless (is_no_incarnation s (current_of s)) _ _ none).1 in
    record { within = subst (LiesWithin (tree s)) (sym is) (record { there = sound.catalog.ledger.current; end = range.1 }); valid = valid; holds = holds }

-- A standby that is rolled

is-tree : (ns : List Incarnation) → AreIncarnations ns → IsTree ns
is-tree ns are = record {
  some = are.some;
  few = are.few;
  parents = parents_below ns are;
  rooted = λ i above inside. (are.branches i above inside).parent.0;
  ascends = λ i there. elim (cases_lt 1 i) [
    | inl later ↦ (are.branches i later there.1).reset
    | inr first ↦
        let one : 1 ≡ i = omega (arith, first, there.0) in
        let least : reset_of ns 0 ≤ reset_of ns 1 = omega arith in
        subst (λ j. reset_of ns (parent_of ns j) ≤ reset_of ns j) one (subst (λ j. reset_of ns j ≤ reset_of ns 1) (sym are.first) least)
  ];
}

pub rolled-held : (s : State) (h : List Change) (from : ℕ) (standby increment : Set) → IsSound s → IsHistory (world s) h → Meets (tree s) standby increment
    → IsSet (rolled standby increment)
    → All (λ m. m.piece.from ≡ from) increment.members → HoldsIn (world s) h (λ rows. rows) standby → HoldsIn (world s) h (from_on from) increment
    → HoldsIn (world s) h (λ rows. rows) (rolled standby increment)
rolled-held s h from standby increment sound history meets valid begins held since = record {
  within = record { there = since.within.there; end = since.within.end };
  valid = valid;
  holds =
      let is = is-tree (tree s) sound.catalog.ledger.incarnations in
      rolled-holds (world s) h from standby increment is history meets held.holds (record { holds = since.holds; begins = begins });
}
