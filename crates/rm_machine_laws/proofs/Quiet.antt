-- A statement without an effect outside, or by which objects go alone.
use Rattle.std.proofs.{Common.{◌≡◌, ◌∙◌, ◌++◌, ℕ, List, [], None, refl, ap, sym, subst}, lemmas.List.{append-nil}}
use Rattle.rm_base.specs.{Store.{Held}, declared.block.Change.{Change}}
use Rattle.rm_machine.specs.{Effect.{Effect, LeavesObjects, Made, done, no_effect}, Machine.{IsBorneOut}, Sound.{IsSound}, State.{ledger}}
use Rattle.rm_machine.{specs.{Upkeep.{removing}, declared.state.State.{State}}, proofs.{Kept.{no-effect, stand-same}, Later.{borne-beside}}}
use Rattle.rm_report.specs.declared.line.Line.{Line}

-- what stands after this effect stands after what was done
pub landed : (q : State) (by : Effect) (h : List Change) (objects : Held) (made : List Made) (touched : List (List ℕ)) (e : Effect) (t : State) (after : Held) → by ≡ e → q ≡ t → LeavesObjects e objects after
    → (LeavesObjects by objects after → IsBorneOut q (h ++ by.changes) after (made ++ by.made) touched) → IsBorneOut t (h ++ e.changes) after (made ++ e.made) touched
landed q by h objects made touched e t after same to effect on =
    subst (λ x. IsBorneOut x (h ++ e.changes) after (made ++ e.made) touched) to
    (subst (λ (x : Effect). IsBorneOut q (h ++ x.changes) after (made ++ x.made) touched) same (on (subst (λ x. LeavesObjects x objects after) (sym same) effect)))

-- the same of one that changed no block
pub unchanged : (q : State) (by : Effect) (h : List Change) (objects : Held) (made : List Made) (touched : List (List ℕ)) (e : Effect) (t : State) (after : Held) → by.changes ≡ [] → by ≡ e → q ≡ t → LeavesObjects e objects after
    → (LeavesObjects by objects after → IsBorneOut q h after (made ++ by.made) touched) → IsBorneOut t (h ++ e.changes) after (made ++ e.made) touched
unchanged q by h objects made touched e t after none same to effect on =
    landed q by h objects made touched e t after same to effect (λ left. subst (λ k. IsBorneOut q k after (made ++ by.made) touched) (sym (ap (λ (cs : List Change). h ++ cs) none ∙ append-nil h)) (on left))

-- a sound state without a saved site is one under another name
pub same-stays : (q t : State) → q ≡ t → IsSound q → q.catalog.saved ≡ None → IsSound t × (t.catalog.saved ≡ None)
same-stays q t is sound none = (subst IsSound is sound, sym (ap (λ (x : State). x.catalog.saved) is) ∙ none)

module _ (q : State) (names : List (List ℕ)) where
  -- what stands after objects of these names went
  pub removing-on : (h : List Change) (objects : Held) (made : List Made) (touched : List (List ℕ)) (lines said : List Line) (e : Effect) (t : State) (after : Held) → done said e t ≡ done lines (removing names) q → LeavesObjects e objects after
      → (LeavesObjects (removing names) objects after → IsBorneOut q h after made touched) → IsBorneOut t (h ++ e.changes) after (made ++ e.made) touched
  removing-on h objects made touched lines said e t after is effect on =
      unchanged q (removing names) h objects made touched e t after refl (cc) (cc) effect (λ left. subst (λ k. IsBorneOut q h after k touched) (sym (append-nil made)) (on left))

  -- and it is sound
  pub removing-stays : (lines said : List Line) (e : Effect) (t : State) → done said e t ≡ done lines (removing names) q → IsSound q → q.catalog.saved ≡ None → IsSound t × (t.catalog.saved ≡ None)
  removing-stays lines said e t is = same-stays q t (cc)

-- what stands after a statement without an effect
pub quiet-on : (q : State) (h : List Change) (objects : Held) (made : List Made) (touched : List (List ℕ)) (lines said : List Line) (e : Effect) (t : State) (after : Held) → done said e t ≡ done lines no_effect q → LeavesObjects e objects after
    → IsBorneOut q h objects made touched → IsBorneOut t (h ++ e.changes) after (made ++ e.made) touched
quiet-on q h objects made touched lines said e t after is effect stands =
    removing-on q [] h objects made touched lines said e t after is effect (λ left.
    borne-beside q h objects after made touched touched stands (stand-same objects after touched (ledger q) (ledger q) (no-effect objects after left)))

-- and it leaves a sound state
pub quiet-stays : (q : State) (lines said : List Line) (e : Effect) (t : State) → done said e t ≡ done lines no_effect q → IsSound q → q.catalog.saved ≡ None → IsSound t × (t.catalog.saved ≡ None)
quiet-stays q lines said e t is sound none = removing-stays q [] lines said e t is sound none
