-- The last change of a block, and what it makes of it.
use Rattle.std.specs.Option.{option_map_or}
use Rattle.std.proofs.Common.{◌≡◌, ◌<◌, ◌≤◌, ◌∙◌, ◌==◌, ◌&&◌, ◌⊎◌, ◌↔◌, inl, inr, nat_lt, ℕ, List, [], ◌∷◌, ◌++◌, Option, Some, None, Bool, true, false, cond, refl, ap, sym, subst, arith, Contains, AllPairs, slice_index_or}
use Rattle.std.proofs.lemmas.{Bool.{eqb-true, eq-eqb, lt-ltb, cases_lt, Decides.{nat_tests}}, List.{get_or_default}}
use Rattle.rm_base.specs.{Content.{zero_block}, declared.block.{Block.{Block}, Change.{Change}, Row.{Row}}}
use Rattle.rm_base.proofs.Members.{in-front, behind, first-or-rest}
use Rattle.rm_history.specs.{Tree.{owner}, World.{creation_of}, History.{IsHistory, SamePlace}}
use Rattle.rm_history.specs.{State.{concerns, later, latest, last_change, row_of, state, IsState}, declared.world.World.{World}}

-- a change of the list that passes, and above which none that passes lies
pub record IsGreatest (p : Change → Bool) (h : List Change) (d : Change) : Type 0 where
  pub held : Contains h d
  pub passes : p d ≡ true
  pub top : (c : Change) → Contains h c → p c ≡ true → c.scn ≤ d.scn

-- the greatest of those that pass, or none passes
abbrev pub IsLatest : (Change → Bool) → List Change → Option Change → Type 0
IsLatest p h None = (c : Change) → Contains h c → ¬ (p c ≡ true)
IsLatest p h (Some d) = IsGreatest p h d

-- a change, after what was found of those behind it
abbrev pub found : (Change → Bool) → Change → Option Change → Option Change
found p c o = cond (p c) (Some (later c o)) o

-- the greatest of those that pass, where `o` was found behind them
abbrev pub latest-on : (Change → Bool) → List Change → Option Change → Option Change
latest-on p [] o = o
latest-on p (c ∷ cs) o = found p c (latest-on p cs o)

pub latest-on-none : (p : Change → Bool) (h : List Change) → latest-on p h None ≡ latest p h
latest-on-none p [] = refl
latest-on-none p (c ∷ cs) = ap (found p c) (latest-on-none p cs)

pub latest-on-append : (p : Change → Bool) (h k : List Change) (o : Option Change) → latest-on p (h ++ k) o ≡ latest-on p h (latest-on p k o)
latest-on-append p [] k o = refl
latest-on-append p (c ∷ cs) k o = ap (found p c) (latest-on-append p cs k o)

-- of two changes the later is one of them, and lies below neither
later-of-both : (c d : Change) (b : Bool) → nat_lt d.scn c.scn ≡ b → ((cond b c d ≡ c) × (d.scn ≤ c.scn)) ⊎ ((cond b c d ≡ d) × (c.scn ≤ d.scn))
later-of-both c d true t = inl (refl, grind (arith, nat_tests))
later-of-both c d false t = inr (refl, grind (arith, nat_tests))

-- one change more in front
latest-cons : (p : Change → Bool) (c : Change) (cs : List Change) (o : Option Change) (b : Bool) → p c ≡ b → IsLatest p cs o → IsLatest p (c ∷ cs) (cond b (Some (later c o)) o)
latest-cons p c cs None true t rest = record {
  held = in-front c cs;
  passes = t;
  top = λ d is passes. elim (first-or-rest c cs d is) [
    | inl same ↦ subst (λ (x : Change). x.scn ≤ c.scn) same (omega arith)
    | inr rest_held ↦ absurd (rest d rest_held passes)
  ];
}
latest-cons p c cs None false t rest = λ d is passes. elim (first-or-rest c cs d is) [
  | inl same ↦ let both : true ≡ false = sym passes ∙ ap p (sym same) ∙ t in absurd (cc)
  | inr rest_held ↦ rest d rest_held passes
]
latest-cons p c cs (Some e) true t rest = elim (later-of-both c e (nat_lt e.scn c.scn) refl) [
  | inl first ↦ subst (IsGreatest p (c ∷ cs)) (sym first.0) (record {
    held = in-front c cs;
    passes = t;
    top = λ d is passes. elim (first-or-rest c cs d is) [
      | inl same ↦ subst (λ (x : Change). x.scn ≤ c.scn) same (omega arith)
      | inr rest_held ↦ let below : d.scn ≤ e.scn = rest.top d rest_held passes in omega (arith, first.1, below)
    ];
  })
  | inr second ↦ subst (IsGreatest p (c ∷ cs)) (sym second.0) (record {
    held = behind c cs e rest.held;
    passes = rest.passes;
    top = λ d is passes. elim (first-or-rest c cs d is) [
      | inl same ↦ subst (λ (x : Change). x.scn ≤ e.scn) same second.1
      | inr rest_held ↦ rest.top d rest_held passes
    ];
  })
]
latest-cons p c cs (Some e) false t rest = record {
  held = behind c cs e rest.held;
  passes = rest.passes;
  top = λ d is passes. elim (first-or-rest c cs d is) [
    | inl same ↦ let both : true ≡ false = sym passes ∙ ap p (sym same) ∙ t in absurd (cc)
    | inr rest_held ↦ rest.top d rest_held passes
  ];
}

pub latest-is : (p : Change → Bool) (h : List Change) → IsLatest p h (latest p h)
latest-is p [] = λ c is passes. absurd (omega (arith, is.1))
latest-is p (c ∷ cs) = latest-cons p c cs (latest p cs) (p c) refl (latest-is p cs)

-- a change that concerns a block, by its parts
pub record Concerns (w : World) (i s f b : ℕ) (c : Change) : Type 0 where
  pub file : c.file ≡ f
  pub block : c.block ≡ b
  pub below : c.scn < s
  pub owned : owner w.tree i c.scn ≡ c.inc

pub both-hold : (a b : Bool) → (a && b) ≡ true → (a ≡ true) × (b ≡ true)
both-hold true b h = (refl, h)
both-hold false b h = absurd (cc)

below-holds : (a b : ℕ) → nat_lt a b ≡ true → a < b
below-holds a b h = grind (arith, nat_tests)

pub concerns-parts : (w : World) (i s f b : ℕ) (c : Change) → concerns w i s f b c ≡ true → Concerns w i s f b c
concerns-parts w i s f b c h =
    let last = both-hold ((c.file == f) && (c.block == b) && nat_lt c.scn s) (owner w.tree i c.scn == c.inc) h in
    let low = both-hold ((c.file == f) && (c.block == b)) (nat_lt c.scn s) last.0 in
    let first = both-hold (c.file == f) (c.block == b) low.0 in
    record { file = eqb-true c.file f first.0; block = eqb-true c.block b first.1; below = below-holds c.scn s low.1; owned = eqb-true (owner w.tree i c.scn) c.inc last.1 }

-- two changes that concern one block at one SCN have one place
pub concerns-one_place : (w : World) (i s f b : ℕ) (c d : Change) → concerns w i s f b c ≡ true → concerns w i s f b d ≡ true → c.scn ≡ d.scn → SamePlace c d
concerns-one_place w i s f b c d hc hd same =
    let pc = concerns-parts w i s f b c hc in
    let pd = concerns-parts w i s f b d hd in
    record {
      inc = sym pc.owned ∙ ap (owner w.tree i) same ∙ pd.owned;
      scn = same;
      file = pc.file ∙ sym pd.file;
      block = pc.block ∙ sym pd.block;
    }

place-back : (c d : Change) → SamePlace c d → SamePlace d c
place-back c d same = record { inc = sym same.inc; scn = sym same.scn; file = sym same.file; block = sym same.block }

-- changes of a history that have one place are one
pub one_place-one : (h : List Change) → AllPairs (λ c d. ¬ SamePlace c d) h → (c d : Change) → Contains h c → Contains h d → SamePlace c d → c ≡ d
one_place-one h apart c d (m, inside_m, is_c) (n, inside_n, is_d) same =
    let read_c : slice_index_or h m d ≡ c = get_or_default h m d c inside_m ∙ is_c in
    elim (cases_lt m n) [
      | inl less ↦ absurd (apart m n d less inside_n (subst (λ (x : Change). SamePlace x (slice_index_or h n d)) (sym read_c) (subst (SamePlace c) (sym is_d) same)))
      | inr most ↦ elim (cases_lt n m) [
        | inl less ↦ absurd (apart n m d less inside_m (subst (λ (x : Change). SamePlace (slice_index_or h n d) x) (sym read_c) (subst (λ (x : Change). SamePlace x c) (sym is_d) (place-back c d same))))
        | inr least ↦ let met : m ≡ n = omega (arith, most, least) in sym read_c ∙ ap (λ k. slice_index_or h k d) met ∙ is_d
      ]
    ]

row-same : (r : Row) (version : ℕ) (content : Block) → r.version ≡ version → r.content ≡ content → r ≡ record { block = r.block; version = version; content = content }
row-same r version content v t =
    let with_version : ℕ → Row = λ n. record { block = r.block; version = n; content = r.content } in
    let with_content : Block → Row = λ bytes. record { block = r.block; version = version; content = bytes } in
    ap with_version v ∙ ap with_content t

pub latest-held : (w : World) (h : List Change) (i s f b : ℕ) (o : Option Change) → IsLatest (concerns w i s f b) h o → IsState w h i s f (row_of w f b o)
latest-held w h i s f b None none = record {
  top = λ c is passes. absurd (none c is passes);
  held = inr (record { none = none; version = refl; content = refl });
}
latest-held w h i s f b (Some d) greatest = record {
  top = greatest.top;
  held = inl (record { change = d; is = greatest.held; concerns = greatest.passes; version = refl; content = refl });
}

pub latest-one : (w : World) (h : List Change) (i s f : ℕ) (r : Row) (o : Option Change) → IsHistory w h → IsState w h i s f r → IsLatest (concerns w i s f r.block) h o → r ≡ row_of w f r.block o
latest-one w h i s f r None history is none = elim is.held [
  | inl made ↦ absurd (none made.change made.is made.concerns)
  | inr untouched ↦ row-same r (creation_of w f) zero_block untouched.version untouched.content
]
latest-one w h i s f r (Some d) history is greatest = elim is.held [
  | inl made ↦
      let low : made.change.scn ≤ d.scn = greatest.top made.change made.is made.concerns in
      let high : d.scn ≤ r.version = is.top d greatest.held greatest.passes in
      let same : made.change.scn ≡ d.scn = omega (arith, low, high, made.version) in
      let one : made.change ≡ d = one_place-one h history.apart made.change d made.is greatest.held (concerns-one_place w i s f r.block made.change d made.concerns greatest.passes same) in
      row-same r d.scn d.content (made.version ∙ same) (made.content ∙ ap (λ (x : Change). x.content) one)
  | inr untouched ↦ absurd (untouched.none d greatest.held greatest.passes)
]

-- the state of a block is a state
pub state-held : (w : World) (h : List Change) (i s f b : ℕ) → IsState w h i s f (state w h i s f b)
state-held w h i s f b = latest-held w h i s f b (last_change w h i s f b) (latest-is (concerns w i s f b) h)

-- and there is no other
pub state-one : (w : World) (h : List Change) (i s f : ℕ) (r : Row) → IsHistory w h → IsState w h i s f r → state w h i s f r.block ≡ r
state-one w h i s f r history is = sym (latest-one w h i s f r (last_change w h i s f r.block) history is (latest-is (concerns w i s f r.block) h))

and-both : (a b : Bool) → a ≡ true → b ≡ true → (a && b) ≡ true
and-both true b first second = second
and-both false b first second = absurd (cc)

-- a change with these parts concerns the block
pub concerns-from : (w : World) (i s f b : ℕ) (c : Change) → Concerns w i s f b c → concerns w i s f b c ≡ true
concerns-from w i s f b c is =
    and-both ((c.file == f) && (c.block == b) && nat_lt c.scn s) (owner w.tree i c.scn == c.inc)
    (and-both ((c.file == f) && (c.block == b)) (nat_lt c.scn s)
    (and-both (c.file == f) (c.block == b) (eq-eqb c.file f is.file) (eq-eqb c.block b is.block))
    (lt-ltb c.scn s is.below))
    (eq-eqb (owner w.tree i c.scn) c.inc is.owned)

-- a change that concerns a block lies above its file's creation
pub concerns-risen : (w : World) (h : List Change) (i s f b : ℕ) (c : Change) → IsHistory w h → Contains h c → concerns w i s f b c ≡ true → creation_of w f < c.scn
concerns-risen w h i s f b c history held is =
    let change = history.changes c held in
    let known : creation_of w c.file ≡ change.datafile.creation = ap (λ o. option_map_or (λ d. d.creation) o 0) change.is in
    subst (λ k. creation_of w k < c.scn) (concerns-parts w i s f b c is).file (let up = change.created in omega (arith, known, up))

-- two lists of the same changes
abbrev pub SameChanges : List Change → List Change → Type 0
SameChanges h k = (c : Change) → Contains h c ↔ Contains k c

IsState-members : (w : World) (h k : List Change) (i s f : ℕ) (r : Row) → SameChanges h k → IsState w h i s f r → IsState w k i s f r
IsState-members w h k i s f r same is = record {
  top = λ c held passes. is.top c ((same c).1 held) passes;
  held = elim is.held [
    | inl made ↦ inl (record { change = made.change; is = (same made.change).0 made.is; concerns = made.concerns; version = made.version; content = made.content })
    | inr untouched ↦ inr (record { none = λ c held. untouched.none c ((same c).1 held); version = untouched.version; content = untouched.content })
  ];
}

-- the state depends on the changes alone, and not on their order
pub state-members : (w : World) (h k : List Change) (i s f b : ℕ) → IsHistory w k → ((c : Change) → Contains h c ↔ Contains k c) → state w h i s f b ≡ state w k i s f b
state-members w h k i s f b history same =
    sym (state-one w k i s f (state w h i s f b) history (IsState-members w h k i s f (state w h i s f b) same (state-held w h i s f b)))
