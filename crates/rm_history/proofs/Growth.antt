-- A history with a change more.
use Rattle.std.proofs.Common.{◌≡◌, ◌<◌, ◌≤◌, ◌∙◌, inl, inr, ℕ, List, [], ◌∷◌, ◌++◌, Bool, true, false, cond, refl, ap, sym, subst, arith, Contains, filter}
use Rattle.std.proofs.lemmas.{Bool.{cases_Bool, cases_lt}, List.Elements.{Contains-append_left, Contains-push, Contains-push_cases}}
use Rattle.rm_base.{specs.declared.block.{Change.{Change}, Row.{Row}}, proofs.Members.{AllPairs-front, AllPairs-last}}
use Rattle.rm_history.specs.{Tree.{owner}, World.{creation_of}, History.{IsHistory, SamePlace}, State.{concerns, state, IsState}}
use Rattle.rm_history.specs.{Artefacts.{Base, Level1, Log}, Agrees.{IsRow, IsBelow, BaseAgrees, Level1Agrees, LogAgrees, is_of}}
use Rattle.rm_history.specs.declared.world.World.{World}
use Rattle.rm_history.proofs.States.{concerns-parts, concerns-from, concerns-one_place, concerns-risen, state-held, state-one}
use Rattle.rm_history.proofs.Histories.{state-push_other}

-- the front of a history is one
pub IsHistory-front : (w : World) (h k : List Change) → IsHistory w (h ++ k) → IsHistory w h
IsHistory-front w h k is = record {
  changes = λ c held. is.changes c (Contains-append_left h k c held);
  apart = AllPairs-front (λ c d. ¬ SamePlace c d) h k is.apart;
}

-- a change that concerns a block at a position concerns it at each later one
pub concerns-later : (w : World) (i s t f b : ℕ) (c : Change) → s ≤ t → concerns w i s f b c ≡ true → concerns w i t f b c ≡ true
concerns-later w i s t f b c later is =
    let parts = concerns-parts w i s f b c is in
    let low = parts.below in
    concerns-from w i t f b c (record { file = parts.file; block = parts.block; below = omega (arith, low); owned = parts.owned })

-- a change at or above all others that concern a block makes its state
pub state-push_top : (w : World) (h : List Change) (c : Change) (i s f b : ℕ) → IsHistory w (h ++ c ∷ []) → concerns w i s f b c ≡ true → ((d : Change) → Contains h d → concerns w i s f b d ≡ true → d.scn ≤ c.scn) → state w (h ++ c ∷ []) i s f b ≡ record { block = b; version = c.scn; content = c.content }
state-push_top w h c i s f b history is above =
    let row : Row = record { block = b; version = c.scn; content = c.content } in
    let held : IsState w (h ++ c ∷ []) i s f row = record {
      top = λ d within passes. elim (Contains-push_cases h c d within) [
        | inl old ↦ above d old passes
        | inr same ↦ subst (λ (x : Change). x.scn ≤ c.scn) same (omega arith)
      ];
      held = inl (record { change = c; is = Contains-push h c; concerns = is; version = refl; content = refl });
    } in
    state-one w (h ++ c ∷ []) i s f row history held

module _ (w : World) (h : List Change) (c : Change) (history : IsHistory w (h ++ c ∷ [])) where
  -- a change of the old history with the new one's place is not there
  below-new : (i s f b : ℕ) (d : Change) → Contains h d → concerns w i s f b d ≡ true → concerns w i s f b c ≡ true → d.scn ≤ c.scn → d.scn < c.scn
  below-new i s f b d within is new low = elim (cases_lt d.scn c.scn) [
    | inl less ↦ less
    | inr most ↦ absurd (AllPairs-last (λ x y. ¬ SamePlace x y) h c d history.apart within (concerns-one_place w i s f b d c is new (omega (arith, low, most))))
  ]

  -- the row is made by a change above the new one: it stays the state
  kept-above : (i s f : ℕ) (r : Row) → IsState w h i s f r → concerns w i s f r.block c ≡ true → c.scn < r.version → IsState w (h ++ c ∷ []) i s f r
  kept-above i s f r old new above = record {
    top = λ d within passes. elim (Contains-push_cases h c d within) [
      | inl was ↦ old.top d was passes
      | inr same ↦ subst (λ (x : Change). x.scn ≤ r.version) same (omega arith)
    ];
    held = elim old.held [
      | inl made ↦ inl (record { change = made.change; is = Contains-append_left h (c ∷ []) made.change made.is; concerns = made.concerns; version = made.version; content = made.content })
      | inr untouched ↦
          let risen : creation_of w f < c.scn = concerns-risen w (h ++ c ∷ []) i s f r.block c history (Contains-push h c) new in
          let at = untouched.version in
          absurd (omega (arith, risen, at))
    ];
  }

  -- the row is not above the new change: it is the state up to there
  kept-below : (i s f : ℕ) (r : Row) → IsState w h i s f r → concerns w i s f r.block c ≡ true → r.version ≤ c.scn → IsState w (h ++ c ∷ []) i c.scn f r
  kept-below i s f r old new low =
      let until : c.scn < s = (concerns-parts w i s f r.block c new).below in
      let was : (d : Change) → Contains (h ++ c ∷ []) d → concerns w i c.scn f r.block d ≡ true → Contains h d × (concerns w i s f r.block d ≡ true) =
      λ d within passes. elim (Contains-push_cases h c d within) [
        | inl front ↦ (front, concerns-later w i c.scn s f r.block d (omega (arith, until)) passes)
        | inr same ↦ let less = (concerns-parts w i c.scn f r.block d passes).below in absurd (omega (arith, less, ap (λ (x : Change). x.scn) same))
      ] in
      record {
        top = λ d within passes. let both = was d within passes in old.top d both.0 both.1;
        held = elim old.held [
          | inl made ↦
              let parts = concerns-parts w i s f r.block made.change made.concerns in
              let at = made.version in
              let less = below-new i s f r.block made.change made.is made.concerns new (omega (arith, at, low)) in
              inl (record {
                change = made.change;
                is = Contains-append_left h (c ∷ []) made.change made.is;
                concerns = concerns-from w i c.scn f r.block made.change (record { file = parts.file; block = parts.block; below = less; owned = parts.owned });
                version = made.version;
                content = made.content;
              })
          | inr untouched ↦ inr (record {
            none = λ d within passes. let both = was d within passes in untouched.none d both.0 both.1;
            version = untouched.version;
            content = untouched.content;
          })
        ];
      }

  -- a row stays a state at or after the checkpoint, where the new change lies there
  pub row-grown : (i f checkpoint : ℕ) (r : Row) → IsRow w h i f checkpoint r → (owner w.tree i c.scn ≡ c.inc → checkpoint ≤ c.scn) → IsRow w (h ++ c ∷ []) i f checkpoint r
  row-grown i f checkpoint r is past = elim (cases_Bool (concerns w i is.position f r.block c)) [
    | inr other ↦ record { position = is.position; after = is.after; is = state-push_other w h c i is.position f r.block other ∙ is.is }
    | inl new ↦
        let old : IsState w h i is.position f r = subst (IsState w h i is.position f) is.is (state-held w h i is.position f r.block) in
        elim (cases_lt c.scn r.version) [
          | inl above ↦ record {
            position = is.position;
            after = is.after;
            is = state-one w (h ++ c ∷ []) i is.position f r history (kept-above i is.position f r old new above);
          }
          | inr low ↦ record {
            position = c.scn;
            after = past (concerns-parts w i is.position f r.block c new).owned;
            is = state-one w (h ++ c ∷ []) i c.scn f r history (kept-below i is.position f r old new low);
          }
        ]
  ]

  -- a copy goes on to agree
  pub BaseAgrees-grown : (a : Base) → BaseAgrees w h a → (owner w.tree a.inc c.scn ≡ c.inc → a.checkpoint ≤ c.scn) → BaseAgrees w (h ++ c ∷ []) a
  BaseAgrees-grown a agrees past r held = row-grown a.inc a.file a.checkpoint r (agrees r held) past

  -- each version at a position lies below `from`, where the changes there do, and the creation
  version-below : (i s f b from : ℕ) → creation_of w f < from → ((d : Change) → Contains (h ++ c ∷ []) d → concerns w i s f b d ≡ true → d.scn < from) → (state w (h ++ c ∷ []) i s f b).version < from
  version-below i s f b from created all = elim (state-held w (h ++ c ∷ []) i s f b).held [
    | inl made ↦ let at = made.version in let low = all made.change made.is made.concerns in omega (arith, at, low)
    | inr untouched ↦ let at = untouched.version in omega (arith, at, created)
  ]

  created-below : (i s f b : ℕ) → creation_of w f ≤ (state w h i s f b).version
  created-below i s f b = elim (state-held w h i s f b).held [
    | inl made ↦
        let risen = concerns-risen w h i s f b made.change (IsHistory-front w h (c ∷ []) history) made.is made.concerns in
        let at = made.version in
        omega (arith, at, risen)
    | inr untouched ↦ let at = untouched.version in omega (arith, at)
  ]

  -- a version stays below `from` at or after the checkpoint, where the new change lies there
  pub below-grown : (i f checkpoint from b : ℕ) → IsBelow w h i f checkpoint from b → (owner w.tree i c.scn ≡ c.inc → checkpoint ≤ c.scn) → IsBelow w (h ++ c ∷ []) i f checkpoint from b
  below-grown i f checkpoint from b is past =
      let top = (state-held w h i is.position f b).top in
      let low = is.below in
      let first = created-below i is.position f b in
      let created : creation_of w f < from = omega (arith, low, first) in
      elim (cases_Bool (concerns w i is.position f b c)) [
        | inr other ↦ record { position = is.position; after = is.after; below = subst (λ (r : Row). r.version < from) (sym (state-push_other w h c i is.position f b other)) is.below }
        | inl new ↦ elim (cases_lt c.scn from) [
          | inl under ↦ record {
            position = is.position;
            after = is.after;
            below = version-below i is.position f b from created (λ d within passes. elim (Contains-push_cases h c d within) [
              | inl old ↦ let most = top d old passes in omega (arith, most, low)
              | inr same ↦ subst (λ (x : Change). x.scn < from) same under
            ]);
          }
          | inr above ↦
              let until : c.scn < is.position = (concerns-parts w i is.position f b c new).below in
              record {
                position = c.scn;
                after = past (concerns-parts w i is.position f b c new).owned;
                below = version-below i c.scn f b from created (λ d within passes. elim (Contains-push_cases h c d within) [
                  | inl old ↦ let most = top d old (concerns-later w i c.scn is.position f b d (omega (arith, until)) passes) in omega (arith, most, low)
                  | inr same ↦ let less = (concerns-parts w i c.scn f b d passes).below in absurd (omega (arith, less, ap (λ (x : Change). x.scn) same))
                ]);
              }
        ]
      ]

  -- an increment goes on to agree
  pub Level1Agrees-grown : (a : Level1) → Level1Agrees w h a → (owner w.tree a.inc c.scn ≡ c.inc → a.checkpoint ≤ c.scn) → Level1Agrees w (h ++ c ∷ []) a
  Level1Agrees-grown a agrees past = record {
    listed = λ r held. let was = agrees.listed r held in (row-grown a.inc a.file a.checkpoint r was.0 past, was.1);
    unlisted = λ b known absent. below-grown a.inc a.file a.checkpoint a.from b (agrees.unlisted b known absent) past;
  }

filter-push_other : (p : Change → Bool) (h : List Change) (c : Change) → p c ≡ false → filter p (h ++ c ∷ []) ≡ filter p h
filter-push_other p [] c fails = ap (λ b. cond b (c ∷ []) []) fails
filter-push_other p (d ∷ ds) c fails = ap (λ xs. cond (p d) (d ∷ xs) xs) (filter-push_other p ds c fails)

-- a log goes on to agree where the change is of another one
pub LogAgrees-grown : (h : List Change) (c : Change) (a : Log) → LogAgrees h a → is_of a c ≡ false → LogAgrees (h ++ c ∷ []) a
LogAgrees-grown h c a agrees other = agrees ∙ sym (filter-push_other (is_of a) h c other)
