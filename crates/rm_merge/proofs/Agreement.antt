-- A row of a copy is a state on the path of a level 1 that meets it.
use Rattle.std.specs.Option.{option_map_or}
use Rattle.std.proofs.Common.{◌≡◌, ◌<◌, ◌≤◌, ◌+◌, ◌∙◌, inl, inr, ℕ, List, true, refl, ap, sym, subst, arith, Contains}
use Rattle.std.proofs.lemmas.Bool.{cases_lt}
use Rattle.rm_base.specs.declared.block.{Change.{Change}, Row.{Row}}
use Rattle.rm_history.specs.{Agrees.{IsRow, IsBelow}, History.{IsHistory}, State.{concerns, state, IsState}, Tree.{owner}}
use Rattle.rm_history.specs.{World.{blocks_of, creation_of}, declared.world.World.{World}}
use Rattle.rm_history.proofs.States.{concerns-parts, concerns-from, concerns-risen, state-held, state-one}

-- a state has its file's creation at least
creation_least : (w : World) (h : List Change) (i s f : ℕ) (r : Row) → IsHistory w h → IsState w h i s f r → creation_of w f ≤ r.version
creation_least w h i s f r history is = elim is.held [
  | inl made ↦
      let risen = concerns-risen w h i s f r.block made.change history made.is made.concerns in
      let v = made.version in
      omega (arith, risen, v)
  | inr untouched ↦ let v = untouched.version in omega (arith, v)
]

-- a change that concerns a block on one path does on another that has the same owner of its SCN
concerns_moved : (w : World) (i j s t f b : ℕ) (c : Change) → concerns w j s f b c ≡ true → owner w.tree j c.scn ≡ owner w.tree i c.scn → c.scn < t → concerns w i t f b c ≡ true
concerns_moved w i j s t f b c is same below =
    let parts = concerns-parts w j s f b c is in
    concerns-from w i t f b c (record { file = parts.file; block = parts.block; below = below; owned = sym same ∙ parts.owned })

-- a later state on a path that owns the row's version is of that version at least
reaches : (w : World) (h : List Change) (i j s t f : ℕ) (r x : Row) → IsHistory w h → IsState w h j s f r → IsState w h i t f x → x.block ≡ r.block → r.version < t → owner w.tree j r.version ≡ owner w.tree i r.version → r.version ≤ x.version
reaches w h i j s t f r x history is other block below same = elim is.held [
  | inl made ↦
      let v = made.version in
      let here : owner w.tree j made.change.scn ≡ owner w.tree i made.change.scn = ap (owner w.tree j) (sym v) ∙ same ∙ ap (owner w.tree i) v in
      let moved : concerns w i t f r.block made.change ≡ true = concerns_moved w i j s t f r.block made.change made.concerns here (omega (arith, v, below)) in
      let top = other.top made.change made.is (subst (λ (b : ℕ). concerns w i t f b made.change ≡ true) (sym block) moved) in
      omega (arith, v, top)
  | inr untouched ↦
      let v = untouched.version in
      let low = creation_least w h i t f x history other in
      omega (arith, v, low)
]

-- right above its version a row is a state on each path that has the same owners up to there
kept : (w : World) (h : List Change) (i j s f : ℕ) (r : Row) → IsHistory w h → IsState w h j s f r → owner w.tree j r.version ≡ owner w.tree i r.version → state w h i (r.version + 1) f r.block ≡ r
kept w h i j s f r history is same = state-one w h i (r.version + 1) f r history (record {
  top = λ c held passes. let low = (concerns-parts w i (r.version + 1) f r.block c passes).below in omega (arith, low);
  held = elim is.held [
    | inl made ↦
        let v = made.version in
        let here : owner w.tree j made.change.scn ≡ owner w.tree i made.change.scn = ap (owner w.tree j) (sym v) ∙ same ∙ ap (owner w.tree i) v in
        inl (record { change = made.change; is = made.is; concerns = concerns_moved w i j s (r.version + 1) f r.block made.change made.concerns here (omega (arith, v)); version = v; content = made.content })
    | inr untouched ↦ inr (record {
      none = λ c held passes.
          let risen = concerns-risen w h i (r.version + 1) f r.block c history held passes in
          let low = (concerns-parts w i (r.version + 1) f r.block c passes).below in
          let v = untouched.version in
          omega (arith, risen, low, v);
      version = untouched.version;
      content = untouched.content;
    })
  ];
})

-- states of one version are one, where both paths have the same owner of it
met : (w : World) (h : List Change) (i j s t f : ℕ) (r x : Row) → IsHistory w h → IsState w h j s f r → IsState w h i t f x → x.block ≡ r.block → x.version ≡ r.version → owner w.tree j r.version ≡ owner w.tree i r.version → state w h i t f r.block ≡ r
met w h i j s t f r x history is other block version same = state-one w h i t f r history (record {
  top = λ c held passes.
      let low = other.top c held (subst (λ (b : ℕ). concerns w i t f b c ≡ true) (sym block) passes) in
      omega (arith, low, version);
  held = elim is.held [
    | inl made ↦ elim other.held [
      | inl last ↦
          let v = made.version in
          let u = last.version in
          let below : last.change.scn < t = (concerns-parts w i t f x.block last.change last.concerns).below in
          let here : owner w.tree j made.change.scn ≡ owner w.tree i made.change.scn = ap (owner w.tree j) (sym v) ∙ same ∙ ap (owner w.tree i) v in
          inl (record { change = made.change; is = made.is; concerns = concerns_moved w i j s t f r.block made.change made.concerns here (omega (arith, below, v, u, version)); version = v; content = made.content })
      | inr none ↦
          let risen = concerns-risen w h j s f r.block made.change history made.is made.concerns in
          let v = made.version in
          let u = none.version in
          absurd (omega (arith, risen, v, u, version))
    ]
    | inr untouched ↦ inr (record {
      none = λ c held passes.
          let risen = concerns-risen w h i t f r.block c history held passes in
          let low = other.top c held (subst (λ (b : ℕ). concerns w i t f b c ≡ true) (sym block) passes) in
          let v = untouched.version in
          omega (arith, risen, low, v, version);
      version = untouched.version;
      content = untouched.content;
    })
  ];
})

-- no change of a history concerns a block that its file does not have
none_outside : (w : World) (h : List Change) (i s f b : ℕ) (c : Change) → IsHistory w h → blocks_of w f ≤ b → Contains h c → ¬ (concerns w i s f b c ≡ true)
none_outside w h i s f b c history outside held passes =
    let change = history.changes c held in
    let parts = concerns-parts w i s f b c passes in
    let known : blocks_of w c.file ≡ change.datafile.blocks = ap (λ o. option_map_or (λ d. d.blocks) o 0) change.is in
    let few : blocks_of w c.file ≤ b = subst (λ (k : ℕ). blocks_of w k ≤ b) (sym parts.file) outside in
    let inside = change.block in
    let same = parts.block in
    omega (arith, known, few, inside, same)

-- so its state is the same everywhere
outside : (w : World) (h : List Change) (i j s t f : ℕ) (r : Row) → IsHistory w h → IsState w h j s f r → blocks_of w f ≤ r.block → state w h i t f r.block ≡ r
outside w h i j s t f r history is past = state-one w h i t f r history (record {
  top = λ c held passes. absurd (none_outside w h i t f r.block c history past held passes);
  held = elim is.held [
    | inl made ↦ absurd (none_outside w h j s f r.block made.change history past made.is made.concerns)
    | inr untouched ↦ inr (record { none = λ c held. none_outside w h i t f r.block c history past held; version = untouched.version; content = untouched.content })
  ];
})

-- a row that is a state
is_state : (w : World) (h : List Change) (i f c : ℕ) (r : Row) → (is : IsRow w h i f c r) → IsState w h i is.position f r
is_state w h i f c r is = subst (IsState w h i is.position f) is.is (state-held w h i is.position f r.block)

-- the row stays where the level 1 lists an older one
pub stays_listed : (w : World) (h : List Change) (i j f c0 c : ℕ) (r n : Row) → IsHistory w h → IsRow w h j f c0 r → owner w.tree j r.version ≡ owner w.tree i r.version → IsRow w h i f c n → n.block ≡ r.block → n.version < r.version → IsRow w h i f c r
stays_listed w h i j f c0 c r n history is same new block older = elim (cases_lt r.version new.position) [
  | inl below ↦
      let up = reaches w h i j is.position new.position f r n history (is_state w h j f c0 r is) (is_state w h i f c n new) block below same in
      absurd (omega (arith, up, older))
  | inr above ↦
      let after = new.after in
      record { position = r.version + 1; after = omega (arith, above, after); is = kept w h i j is.position f r history (is_state w h j f c0 r is) same }
]

-- the row at a position where it is not below the block's state, and that is not above the row
level : (w : World) (h : List Change) (i j f c0 c from high p : ℕ) (r x : Row) → IsHistory w h → (is : IsRow w h j f c0 r) → ((g : ℕ) → g < high → owner w.tree j g ≡ owner w.tree i g) → r.version < high → c0 ≤ high → from ≤ c0 → IsState w h i p f x → x.block ≡ r.block → x.version < from → c ≤ p → IsRow w h i f c r
level w h i j f c0 c from high p r x history is alike under reached low other block below after =
    let first = is_state w h j f c0 r is in
    let start = is.after in
    elim (cases_lt r.version p) [
      | inl before ↦
          let up = reaches w h i j is.position p f r x history first other block before (alike r.version under) in
          let down = reaches w h j i p is.position f x r history other first (sym block) (omega (arith, below, low, start)) (sym (alike x.version (omega (arith, below, low, reached)))) in
          record { position = p; after = after; is = met w h i j is.position p f r x history first other block (omega (arith, up, down)) (alike r.version under) }
      | inr above ↦ record { position = r.version + 1; after = omega (arith, above, after); is = kept w h i j is.position f r history first (alike r.version under) }
    ]

-- the row stays where the level 1 does not list its block
pub stays_unlisted : (w : World) (h : List Change) (i j f c0 c from high : ℕ) (r : Row) → IsHistory w h → IsRow w h j f c0 r → ((g : ℕ) → g < high → owner w.tree j g ≡ owner w.tree i g) → r.version < high → c0 ≤ high → from ≤ c0 → (r.block < blocks_of w f → IsBelow w h i f c from r.block) → IsRow w h i f c r
stays_unlisted w h i j f c0 c from high r history is alike under reached low unlisted = elim (cases_lt r.block (blocks_of w f)) [
  | inl inside ↦
      let below = unlisted inside in
      level w h i j f c0 c from high below.position r (state w h i below.position f r.block) history is alike under reached low (state-held w h i below.position f r.block) refl below.below below.after
  | inr past ↦ record { position = c; after = omega arith; is = outside w h i j is.position c f r history (is_state w h j f c0 r is) past }
]
