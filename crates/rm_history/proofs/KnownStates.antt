-- A state from what happened at its version.
use Rattle.std.proofs.Common.{◌≡◌, ◌<◌, ◌≤◌, ◌∙◌, ◌⊎◌, inl, inr, ℕ, List, true, ap, sym, arith, Contains}
use Rattle.rm_base.specs.{Content.{zero_block}, declared.block.{Block.{Block}, Change.{Change}, Row.{Row}}}
use Rattle.rm_history.specs.{Tree.{owner}, World.{creation_of}, History.{IsHistory}, State.{concerns, state, IsState}}
use Rattle.rm_history.specs.declared.world.World.{World}
use Rattle.rm_history.proofs.{Growth.{concerns-later}, States.{Concerns, concerns-parts, concerns-from, concerns-risen, state-held, state-one}}

-- the change is one of the block at (m, g)
pub record IsAt (f b m g : ℕ) (c : Change) : Type 0 where
  pub file : c.file ≡ f
  pub block : c.block ≡ b
  pub inc : c.inc ≡ m
  pub scn : c.scn ≡ g

-- the history has a change of the block to x at (m, v)
pub record HasChanged (h : List Change) (f b m v : ℕ) (x : Block) : Type 0 where
  pub change : Change
  pub held : Contains h change
  pub at : IsAt f b m v change
  pub content : change.content ≡ x

-- the block had content x from (m, v) on: by a change, or as its file was created
abbrev pub Happened : World → List Change → ℕ → ℕ → ℕ → ℕ → Block → Type 0
Happened w h f b m v x = HasChanged h f b m v x ⊎ ((v ≡ creation_of w f) × (x ≡ zero_block))

-- no change that concerns the block lies above v
abbrev pub IsTop : World → List Change → ℕ → ℕ → ℕ → ℕ → ℕ → Type 0
IsTop w h i s f b v = (c : Change) → Contains h c → concerns w i s f b c ≡ true → c.scn ≤ v

-- where that is its file's creation, none concerns it
none-risen : (w : World) (h : List Change) (i s f b v : ℕ) → IsHistory w h → v ≡ creation_of w f → IsTop w h i s f b v → (c : Change) → Contains h c → ¬ (concerns w i s f b c ≡ true)
none-risen w h i s f b v history created top c held concerned =
    let risen = concerns-risen w h i s f b c history held concerned in
    let low = top c held concerned in
    omega (arith, created, risen, low)

-- at the version of a state its content happened
pub state-happened : (w : World) (h : List Change) (i s f : ℕ) (r : Row) → IsState w h i s f r → Happened w h f r.block (owner w.tree i r.version) r.version r.content
state-happened w h i s f r is = elim is.held [
  | inl made ↦
      let parts = concerns-parts w i s f r.block made.change made.concerns in
      inl (record {
        change = made.change;
        held = made.is;
        at = record { file = parts.file; block = parts.block; inc = sym parts.owned ∙ ap (owner w.tree i) (sym made.version); scn = sym made.version };
        content = sym made.content;
      })
  | inr untouched ↦ inr (untouched.version, untouched.content)
]

-- what happened last is the state
pub happened-state : (w : World) (h : List Change) (i s f b v : ℕ) (x : Block) → IsHistory w h → v < s → IsTop w h i s f b v → Happened w h f b (owner w.tree i v) v x → state w h i s f b ≡ record { block = b; version = v; content = x }
happened-state w h i s f b v x history below top happened =
    state-one w h i s f (record { block = b; version = v; content = x }) history (record {
      top = top;
      held = elim happened [
        | inl changed ↦
            let at = changed.at in
            let here = at.scn in
            let concerned : Concerns w i s f b changed.change =
            record { file = at.file; block = at.block; below = omega (arith, here, below); owned = ap (owner w.tree i) here ∙ sym at.inc } in
            inl (record {
              change = changed.change;
              is = changed.held;
              concerns = concerns-from w i s f b changed.change concerned;
              version = sym here;
              content = sym changed.content;
            })
        | inr created ↦ inr (record {
          none = none-risen w h i s f b v history created.0 top;
          version = created.0;
          content = created.1;
        })
      ];
    })

-- a state stays where the change that made it does, and none above it comes
pub state-stays : (w : World) (h k : List Change) (i s f : ℕ) (r : Row) → IsHistory w k → IsState w h i s f r → IsTop w k i s f r.block r.version → ((c : Change) → Contains h c → concerns w i s f r.block c ≡ true → r.version ≡ c.scn → Contains k c) → state w k i s f r.block ≡ r
state-stays w h k i s f r history old top stays =
    state-one w k i s f r history (record {
      top = top;
      held = elim old.held [
        | inl made ↦ inl (record {
          change = made.change;
          is = stays made.change made.is made.concerns made.version;
          concerns = made.concerns;
          version = made.version;
          content = made.content;
        })
        | inr untouched ↦ inr (record {
          none = none-risen w k i s f r.block r.version history untouched.version top;
          version = untouched.version;
          content = untouched.content;
        })
      ];
    })

-- a version is its file's creation at least
pub created-first : (w : World) (h : List Change) (i s f b : ℕ) → IsHistory w h → creation_of w f ≤ (state w h i s f b).version
created-first w h i s f b history = elim (state-held w h i s f b).held [
  | inl made ↦
      let risen = concerns-risen w h i s f b made.change history made.is made.concerns in
      let at = made.version in
      omega (arith, at, risen)
  | inr untouched ↦ let at = untouched.version in omega (arith, at)
]

-- where each change that concerns the block lies below n, and the creation, the version does
pub version-below : (w : World) (h : List Change) (i s f b n : ℕ) → creation_of w f < n → ((c : Change) → Contains h c → concerns w i s f b c ≡ true → c.scn < n) → (state w h i s f b).version < n
version-below w h i s f b n created all = elim (state-held w h i s f b).held [
  | inl made ↦ let at = made.version in let low = all made.change made.is made.concerns in omega (arith, at, low)
  | inr untouched ↦ let at = untouched.version in omega (arith, at, created)
]

-- a state with a version below a position is the state there
pub settled : (w : World) (h : List Change) (i s position f b : ℕ) → IsHistory w h → s ≤ position → (state w h i position f b).version < s
    → state w h i s f b ≡ state w h i position f b
settled w h i s position f b history later below =
    let is = state-held w h i position f b in
    state-one w h i s f (state w h i position f b) history (record {
      top = λ c held passes. is.top c held (concerns-later w i s position f b c later passes);
      held = elim is.held [
        | inl made ↦
            let parts = concerns-parts w i position f b made.change made.concerns in
            let at = made.version in
            inl (record {
              change = made.change;
              is = made.is;
              concerns = concerns-from w i s f b made.change
                  (record { file = parts.file; block = parts.block; below = omega (arith, at, below); owned = parts.owned });
              version = made.version;
              content = made.content;
            })
        | inr untouched ↦ inr (record {
          none = λ c held passes. untouched.none c held (concerns-later w i s position f b c later passes);
          version = untouched.version;
          content = untouched.content;
        })
      ];
    })

-- versions lie from the creation on, and below the position
pub version-range : (w : World) (h : List Change) (i s f b : ℕ) → IsHistory w h → 1 ≤ creation_of w f → creation_of w f < s
    → (1 ≤ (state w h i s f b).version) × ((state w h i s f b).version < s)
version-range w h i s f b history some low =
    let first = created-first w h i s f b history in
    (omega (arith, some, first), version-below w h i s f b s low (λ c held passes. (concerns-parts w i s f b c passes).below))
