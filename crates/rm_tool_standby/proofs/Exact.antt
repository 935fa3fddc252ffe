-- From a database at rest, what a task makes holds what its history made.
use Rattle.std.proofs.Common.{◌≡◌, ◌∙◌, ℕ, List, Option, Some, subst}
use Rattle.rm_apply.specs.{Recover.{TellsAll}, declared.recovering.Recovered.{Recovered}}
use Rattle.rm_base.specs.{Store.{Held}, declared.block.Change.{Change}}
use Rattle.rm_catalog.{specs.declared.record.Record.{Record}, proofs.Incarnations.{is-tree}}
use Rattle.rm_catalog_typed.{specs.TypedCatalog.{records_of}, proofs.{Records.{database-told, tree-told}, Valid.{typed_catalog-valid}}}
use Rattle.rm_evidence.specs.Known.{known_of}
use Rattle.rm_history.specs.{History.{IsHistory}, Tree.{IsTree}}
use Rattle.rm_machine.specs.{Machine.{DigestsTell, IsBorneOut, IsSoundBy, Machine}, Recovery.{AreMadeAt, in_place}, Sound.{IsSound}}
use Rattle.rm_machine.{specs.{State.{tree, world}, declared.state.State.{State}}, proofs.Told.{tells-files}}
use Rattle.rm_machine_laws.{specs.Holds.{View}, proofs.{Agreeing.{agreed}, Told.{files-made}}}
use Rattle.rm_piece.specs.declared.set.Set.{Set}
use Rattle.rm_standby.specs.Standby.{HoldsSince, HoldsStates}
use Rattle.rm_tool_opening.specs.Opening.{IsSource, FromRest}

-- its incarnations are a tree
pub a-tree : (s : State) → IsSound s → IsTree (tree s)
a-tree s sound = subst IsTree (tree-told s.catalog) (is-tree (records_of s.catalog) (typed_catalog-valid s.catalog sound.catalog) (database-told s.catalog))

-- where digests tell, what is told is what the history made
told-made : (from : Option Held) (s : State) (i until : ℕ) (back : Recovered) (m : Machine) → TellsAll from (records_of s.catalog) (in_place s) i until back → from ≡ Some m.objects → m.state ≡ Some s
    → IsSoundBy m.state m.history m.objects m.made m.touched → DigestsTell m → IsHistory (world s) m.history × AreMadeAt (world s) m.history i until back.files
told-made from s i until back m tells store state sound digests =
    let both = agreed from s m tells.evidence store state sound tells.is.at_hand digests in
    (both.0, files-made (world s) (known_of tells.evidence) i until m.history both.0 both.1 back.files (tells-files s from i until back tells))

module _ (from : Option Held) (records : Option (List Record)) (v : View) (source : IsSource from records v) (s : State) (shown : v.state ≡ Some s) where
  -- a standby of what is told
  pub made-exact : (i until : ℕ) (back : Recovered) (new : Set) → TellsAll from (records_of s.catalog) (in_place s) i until back
      → ((h : List Change) → IsHistory (world s) h → AreMadeAt (world s) h i until back.files → HoldsStates (world s) h new)
      → FromRest from records (λ m. (m.state ≡ Some s) × (DigestsTell m → HoldsStates (world s) m.history new))
  made-exact i until back new tells holds = λ r rest tell.
      let o = source.opens r rest tell in
      let state : o.0.state ≡ Some s = o.2 ∙ shown in
      (o.0, o.1, (state, λ digests. let made = told-made from s i until back o.0 tells o.3.store state o.3.sound digests in holds o.0.history made.0 made.1))

  -- a standby that was rolled
  pub rolled-exact : (old increment new : Set)
      → ((h : List Change) (at : ℕ) → IsHistory (world s) h → HoldsStates (world s) h old → HoldsSince (world s) h at increment → HoldsStates (world s) h new)
      → FromRest from records (λ m. (m.state ≡ Some s) × ((at : ℕ) → HoldsStates (world s) m.history old → HoldsSince (world s) m.history at increment → HoldsStates (world s) m.history new))
  rolled-exact old increment new holds = λ r rest tell.
      let o = source.opens r rest tell in
      let state : o.0.state ≡ Some s = o.2 ∙ shown in
      let borne : IsBorneOut s o.0.history o.0.objects o.0.made o.0.touched = subst (λ (x : Option State). IsSoundBy x o.0.history o.0.objects o.0.made o.0.touched) state o.3.sound in
      (o.0, o.1, (state, λ at was since. holds o.0.history at borne.keeps.history was since))
