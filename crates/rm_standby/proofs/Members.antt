-- The members of a rolled standby are valid.
use Rattle.std.specs.{Prelude.{IfSome, IsSomeAnd}, List.{AllPairs}}
use Rattle.std.proofs.Common.{◌≡◌, ◌≢◌, ◌∙◌, ◌+◌, ◌<◌, ◌≤◌, ℕ, zero, suc, List, [], ◌∷◌, Option, Some, None, Bool, true, false, cond, eqb, inl, inr, refl, ap, sym, subst, arith, length, get_or, map, Contains, All}
use Rattle.std.proofs.lemmas.{Bool.{cases_lt, eqb-true}, List.{get_or-map, get_or_default, length-map}}
use Rattle.std.proofs.lemmas.List.{Elements.{All-cons, All-contains, All-map, All-nil, All-tail, Contains-get_or}, Sums.{sum_by-cons}}
use Rattle.rm_base.specs.{Content.{zero_block}, Created.{created_row}, Numbers.{last_scn}, declared.block.Row.{Row}}
use Rattle.rm_base.{specs.declared.kinds.Kind.TheVariants.{Level1}, proofs.Lists.{find_cases}}
use Rattle.rm_history.specs.State.{rows_from}
use Rattle.rm_piece.specs.{Filling.{next_left, next_or, over}, Rows.{IsWhole}, Sets.{blocks_in, IsBeforeMember, IsMember, IsSet, IsSince}}
use Rattle.rm_piece.{specs.{Valid.{IsBefore, IsRow}, declared.set.{Set.{Set}, SetFile.{SetFile}}}, proofs.Fitting.{few_rows}}
use Rattle.rm_piece.proofs.{SetFitting.{moved}, Whole.{full, placed}}
use Rattle.rm_standby.specs.Rolling.{full_member, member_at, old_rows, rolled, rolled_member, IsSameFile}

-- ---- rows over rows

cond-block : (r n : Row) (b : Bool) → eqb n.block r.block ≡ b → (cond b n r).block ≡ r.block
cond-block r n true is = eqb-true n.block r.block is
cond-block r n false is = refl

next-block : (r : Row) (ns : List Row) → (next_or r ns).block ≡ r.block
next-block r [] = refl
next-block r (n ∷ ns) = cond-block r n (eqb n.block r.block) refl

cond-keeps : (P : Row → Type 0) (r n : Row) (b : Bool) → P r → P n → P (cond b n r)
cond-keeps P r n true old new = new
cond-keeps P r n false old new = old

cond-left : (P : Row → Type 0) (n : Row) (ns : List Row) (b : Bool) → All P (n ∷ ns) → All P (cond b ns (n ∷ ns))
cond-left P n ns true all = All-tail P n ns all
cond-left P n ns false all = all

next-keeps : (P : Row → Type 0) (r : Row) (ns : List Row) → P r → All P ns → P (next_or r ns)
next-keeps P r [] old all = old
next-keeps P r (n ∷ ns) old all = cond-keeps P r n (eqb n.block r.block) old (all 0 n (omega arith))

left-keeps : (P : Row → Type 0) (b : ℕ) (ns : List Row) → All P ns → All P (next_left b ns)
left-keeps P b [] all = all
left-keeps P b (n ∷ ns) all = cond-left P n ns (eqb n.block b) all

-- what is true of the rows of both lists
pub over-keeps : (P : Row → Type 0) (os ns : List Row) → All P os → All P ns → All P (over os ns)
over-keeps P [] ns old all = All-nil P
over-keeps P (o ∷ os) ns old all =
    All-cons P (next_or o ns) (over os (next_left o.block ns)) (next-keeps P o ns (old 0 o (omega arith)) all)
    (over-keeps P os (next_left o.block ns) (All-tail P o os old) (left-keeps P o.block ns all))

pub length-over : (os ns : List Row) → length (over os ns) ≡ length os
length-over [] ns = refl
length-over (o ∷ os) ns = let rest = length-over os (next_left o.block ns) in omega (arith, rest)

over-block : (os ns : List Row) (k : ℕ) (d : Row) → k < length os → (get_or (over os ns) k d).block ≡ (get_or os k d).block
over-block [] ns k d inside = absurd (omega (arith, inside))
over-block (o ∷ os) ns zero d inside = next-block o ns
over-block (o ∷ os) ns (suc k) d inside = over-block os (next_left o.block ns) k d (omega arith)

pub over-ascends : (os ns : List Row) → AllPairs IsBefore os → AllPairs IsBefore (over os ns)
over-ascends os ns up i j d less inside =
    let many = length-over os ns in
    let one = over-block os ns i d (omega (arith, less, inside, many)) in
    let two = over-block os ns j d (omega (arith, inside, many)) in
    let step : (get_or os i d).block < (get_or os j d).block = up i j d less (omega (arith, inside, many)) in
    omega (arith, one, two, step)

-- ---- the rows of before

-- each block of a datafile has a row, valid and at its place
pub record IsOld (creation blocks : ℕ) (rows : List Row) : Type 0 where
  pub count : length rows ≡ blocks
  pub whole : IsWhole rows
  pub ascend : AllPairs IsBefore rows
  pub valid : All (IsRow blocks 0) rows
  pub since : All (IsSince creation) rows

from-zero : (blocks least : ℕ) (r : Row) → IsRow blocks least r → IsRow blocks 0 r
from-zero blocks least r is = record { block = is.block; version = is.version; from = omega arith; content = is.content }

-- those that the standby has
pub old-of : (s : Set) (m n : SetFile) → IsMember s m → m.piece.kind ≢ Level1 → IsSameFile m n → IsOld n.creation n.piece.blocks m.piece.rows
old-of s m n is other same = record {
  count = full m.piece is.piece other ∙ sym same.blocks;
  whole = placed m.piece is.piece other;
  ascend = is.piece.ascend;
  valid = λ k d inside. subst (λ (b : ℕ). IsRow b 0 (get_or m.piece.rows k d)) (sym same.blocks) (from-zero m.piece.blocks m.piece.from (get_or m.piece.rows k d) (is.piece.rows k d inside));
  since = λ k d inside. subst (λ (c : ℕ). IsSince c (get_or m.piece.rows k d)) (sym same.creation) (is.rows k d inside);
}

length-created : (row : ℕ → Row) (b n : ℕ) → length (rows_from row b n) ≡ n
length-created row b zero = refl
length-created row b (suc n) = let rest = length-created row (b + 1) n in omega (arith, rest)

created-at : (creation b n k : ℕ) (d : Row) → k < n → get_or (rows_from (created_row creation) b n) k d ≡ created_row creation (b + k)
created-at creation b zero k d inside = absurd (omega (arith, inside))
created-at creation b (suc n) zero d inside = ap (created_row creation) (omega arith)
created-at creation b (suc n) (suc k) d inside = created-at creation (b + 1) n k d (omega (arith, inside)) ∙ ap (created_row creation) (omega arith)

zero-length : length zero_block.0 ≡ 64
zero-length = refl

-- a datafile as it was created
pub old-created : (creation blocks : ℕ) → 1 ≤ creation → creation < last_scn → IsOld creation blocks (rows_from (created_row creation) 0 blocks)
old-created creation blocks some below =
    let many = length-created (created_row creation) 0 blocks in
    let at : (k : ℕ) (d : Row) → k < length (rows_from (created_row creation) 0 blocks) → get_or (rows_from (created_row creation) 0 blocks) k d ≡ created_row creation k = λ k d inside. created-at creation 0 blocks k d (omega (arith, inside, many)) ∙ ap (created_row creation) (omega arith) in
    record {
      count = many;
      whole = λ k d inside. ap (λ (r : Row). r.block) (at k d inside);
      ascend = λ i j d less inside.
          let one = ap (λ (r : Row). r.block) (at i d (omega (arith, less, inside))) in
          let two = ap (λ (r : Row). r.block) (at j d inside) in
          omega (arith, one, two, less);
      valid = λ k d inside. subst (IsRow blocks 0) (sym (at k d inside)) (record { block = omega (arith, inside, many); version = (some, below); from = omega arith; content = zero-length });
      since = λ k d inside. subst (IsSince creation) (sym (at k d inside)) (record { since = omega arith; zero = λ same. refl });
    }

-- ---- a member

pub versions-over : (creation blocks : ℕ) (s : Set) (n : SetFile) (old : List Row) → IsMember s n → IsOld creation blocks old → All (λ r. r.version < last_scn) (over old n.piece.rows)
versions-over creation blocks s n old is was = over-keeps (λ r. r.version < last_scn) old n.piece.rows (λ k d inside. (was.valid k d inside).version.1) (λ k d inside. (is.piece.rows k d inside).version.1)

-- a full member with the rows of before and the listed ones over them
pub member-over : (s : Set) (n : SetFile) (old : List Row) → IsMember s n → IsOld n.creation n.piece.blocks old → IsMember s (full_member n (over old n.piece.rows))
member-over s n old is was =
    let many = length-over old n.piece.rows ∙ was.count in
    record {
      of = record { dbid = is.of.dbid; inc = is.of.inc; checkpoint = is.of.checkpoint };
      piece = record {
        dbid = is.piece.dbid;
        inc = is.piece.inc;
        file = is.piece.file;
        blocks = is.piece.blocks;
        checkpoint = is.piece.checkpoint;
        kind = (refl, many);
        ascend = over-ascends old n.piece.rows was.ascend;
        rows = over-keeps (IsRow n.piece.blocks 0) old n.piece.rows was.valid (λ k d inside. from-zero n.piece.blocks n.piece.from (get_or n.piece.rows k d) (is.piece.rows k d inside));
        high = refl;
      };
      kind = λ e. absurd cc;
      creation = is.creation;
      rows = over-keeps (IsSince n.creation) old n.piece.rows was.since is.rows;
      whole = λ low. many;
    }

-- ---- what a member is rolled over

-- what is asked of the rows of before and of the listed ones
pub record CanRoll (old : List Row) (n : SetFile) : Type 0 where
  pub whole : IsWhole old
  pub inside : All (λ r. r.block < length old) n.piece.rows
  pub few : length n.piece.rows ≤ 65536
  pub versions : All (λ r. r.version < last_scn) (over old n.piece.rows)

pub can-roll : (s : Set) (n : SetFile) (old : List Row) → IsMember s n → IsOld n.creation n.piece.blocks old → CanRoll old n
can-roll s n old is was = record {
  whole = was.whole;
  inside = λ k d inside. let low = (is.piece.rows k d inside).block in let many = was.count in omega (arith, low, many);
  few = few_rows n.piece is.piece;
  versions = versions-over n.creation n.piece.blocks s n old is was;
}

pub new-old : (s : Set) (n : SetFile) → IsMember s n → IsOld n.creation n.piece.blocks (rows_from (created_row n.creation) 0 n.piece.blocks)
new-old s n is =
    let below = is.creation.1 in
    let same = is.of.checkpoint in
    let last = is.piece.checkpoint.1 in
    old-created n.creation n.piece.blocks is.creation.0 (omega (arith, below, same, last))

-- a member that is found is there, and of the datafile
pub record IsHeld (ms : List SetFile) (f : ℕ) (m : SetFile) : Type 0 where
  pub held : Contains ms m
  pub file : m.piece.file ≡ f

pub member-held : (ms : List SetFile) (f : ℕ) (m : SetFile) → Some m ≡ member_at ms f → IsHeld ms f m
member-held ms f m is = elim (find_cases (λ x. eqb x.piece.file f) ms) [
  | inl none ↦ let both : Some m ≡ None = is ∙ none in absurd cc
  | inr found ↦
      let one : found.item ≡ m = same_member found.item m (sym found.is ∙ sym is) in
      record { held = subst (Contains ms) one found.held; file = ap (λ (x : SetFile). x.piece.file) (sym one) ∙ eqb-true found.item.piece.file f found.passes }
]
  where
    same_member : (a b : SetFile) → Some a ≡ Some b → a ≡ b
    same_member a b e = cc

some-of : (P : SetFile → Type 0) (o : Option SetFile) (m : SetFile) → Some m ≡ o → IfSome o P → P m
some-of P o m is all = coe 1 0 (i. IfSome (is i) P) all

pub some-old : (s : Set) (ms : List SetFile) (m n : SetFile) → ms ≡ s.members → Some m ≡ member_at ms n.piece.file → All (IsMember s) s.members → All (λ x. x.piece.kind ≢ Level1) s.members → IfSome (member_at s.members n.piece.file) (λ x. IsSameFile x n) → IsOld n.creation n.piece.blocks m.piece.rows
some-old s ms m n are is members kinds same =
    let found : Some m ≡ member_at s.members n.piece.file = is ∙ ap (λ (l : List SetFile). member_at l n.piece.file) are in
    let held = (member-held s.members n.piece.file m found).held in
    old-of s m n (All-contains (IsMember s) s.members m members held) (All-contains (λ (x : SetFile). x.piece.kind ≢ Level1) s.members m kinds held)
    (some-of (λ (x : SetFile). IsSameFile x n) (member_at s.members n.piece.file) m found same)

-- ---- the members of both sets

-- a datafile has one member
one-member : (ms : List SetFile) → AllPairs IsBeforeMember ms → (x y : SetFile) → Contains ms x → Contains ms y → x.piece.file ≡ y.piece.file → x ≡ y
one-member ms up x y a b same =
    let i = a.0 in
    let j = b.0 in
    let first : (get_or ms i x).piece.file ≡ x.piece.file = ap (λ (m : SetFile). m.piece.file) a.2 in
    let second : (get_or ms j y).piece.file ≡ y.piece.file = ap (λ (m : SetFile). m.piece.file) b.2 in
    let other : (get_or ms j x).piece.file ≡ (get_or ms j y).piece.file = ap (λ (m : SetFile). m.piece.file) (get_or_default ms j x y b.1) in
    elim (cases_lt i j) [
      | inl less ↦ let step : (get_or ms i x).piece.file < (get_or ms j x).piece.file = up i j x less b.1 in absurd (omega (arith, step, first, second, other, same))
      | inr most ↦ elim (cases_lt j i) [
        | inl more ↦ let step : (get_or ms j x).piece.file < (get_or ms i x).piece.file = up j i x more a.1 in absurd (omega (arith, step, first, second, other, same))
        | inr least ↦
            let at : i ≡ j = omega (arith, most, least) in
            sym a.2 ∙ ap (λ (k : ℕ). get_or ms k x) at ∙ get_or_default ms j x y b.1 ∙ b.2
      ]
    ]

carried : (increment : Set) (m n : SetFile) (o : Option SetFile) → AllPairs IsBeforeMember increment.members → Contains increment.members n → m.piece.file ≡ n.piece.file → member_at increment.members m.piece.file ≡ o → IsSomeAnd o (IsSameFile m) → IsSameFile m n
carried increment m n None up has same is kept = absurd kept
carried increment m n (Some x) up has same is kept =
    let there = member-held increment.members m.piece.file x (sym is) in
    subst (IsSameFile m) (one-member increment.members up x n there.held has (there.file ∙ same)) kept

same-of : (standby increment : Set) (n : SetFile) (o : Option SetFile) → AllPairs IsBeforeMember increment.members → All (λ m. IsSomeAnd (member_at increment.members m.piece.file) (IsSameFile m)) standby.members → Contains increment.members n → member_at standby.members n.piece.file ≡ o → IfSome o (λ m. IsSameFile m n)
same-of standby increment n None up kept has is = tt
same-of standby increment n (Some m) up kept has is =
    let there = member-held standby.members n.piece.file m (sym is) in
    carried increment m n (member_at increment.members m.piece.file) up has there.file refl (All-contains (λ (x : SetFile). IsSomeAnd (member_at increment.members x.piece.file) (IsSameFile x)) standby.members m kept there.held)

pub same-files : (standby increment : Set) → AllPairs IsBeforeMember increment.members → All (λ m. IsSomeAnd (member_at increment.members m.piece.file) (IsSameFile m)) standby.members → All (λ n. IfSome (member_at standby.members n.piece.file) (λ m. IsSameFile m n)) increment.members
same-files standby increment up kept k d inside =
    same-of standby increment (get_or increment.members k d) (member_at standby.members (get_or increment.members k d).piece.file) up kept (Contains-get_or increment.members k d inside) refl

-- ---- the rolled standby

old-for : (standby : Set) (n : SetFile) (o : Option SetFile) (increment : Set) → IsSet standby → All (λ m. m.piece.kind ≢ Level1) standby.members → IsMember increment n → member_at standby.members n.piece.file ≡ o → IfSome o (λ m. IsSameFile m n) → IsOld n.creation n.piece.blocks (old_rows o n)
old-for standby n None increment is kinds member found same = new-old increment n member
old-for standby n (Some m) increment is kinds member found same =
    let held = (member-held standby.members n.piece.file m (sym found)).held in
    old-of standby m n (All-contains (IsMember standby) standby.members m is.members held) (All-contains (λ (x : SetFile). x.piece.kind ≢ Level1) standby.members m kinds held) same

blocks-same : (f : SetFile → SetFile) → ((n : SetFile) → (f n).piece.blocks ≡ n.piece.blocks) → (ms : List SetFile) → blocks_in (map f ms) ≡ blocks_in ms
blocks-same f same [] = refl
blocks-same f same (m ∷ ms) =
    let one = sum_by-cons (λ (n : SetFile). n.piece.blocks) (f m) (map f ms) in
    let two = sum_by-cons (λ (n : SetFile). n.piece.blocks) m ms in
    let rest = blocks-same f same ms in
    let here = same m in
    omega (arith, one, two, rest, here)

pub rolled-valid : (standby increment : Set) → IsSet standby → IsSet increment → All (λ m. m.piece.kind ≢ Level1) standby.members → All (λ n. IfSome (member_at standby.members n.piece.file) (λ m. IsSameFile m n)) increment.members → IsSet (rolled standby increment)
rolled-valid standby increment is_s is kinds same = record {
  dbid = is.dbid;
  inc = is.inc;
  checkpoint = is.checkpoint;
  few = let many = length-map increment.members (rolled_member standby) in let few = is.few in omega (arith, many, few);
  ascend = λ i j d less inside.
      let many = length-map increment.members (rolled_member standby) in
      let one : (get_or (map (rolled_member standby) increment.members) i d).piece.file ≡ (get_or increment.members i d).piece.file = ap (λ (m : SetFile). m.piece.file) (get_or-map (rolled_member standby) increment.members i d d (omega (arith, less, inside, many))) in
      let two : (get_or (map (rolled_member standby) increment.members) j d).piece.file ≡ (get_or increment.members j d).piece.file = ap (λ (m : SetFile). m.piece.file) (get_or-map (rolled_member standby) increment.members j d d (omega (arith, inside, many))) in
      let step : (get_or increment.members i d).piece.file < (get_or increment.members j d).piece.file = is.ascend i j d less (omega (arith, inside, many)) in
      omega (arith, one, two, step);
  members = All-map (IsMember (rolled standby increment)) (rolled_member standby) increment.members (λ k d inside.
      let n = get_or increment.members k d in
      let member : IsMember increment n = is.members k d inside in
      moved increment (rolled standby increment) (rolled_member standby n) refl refl refl
      (member-over increment n (old_rows (member_at standby.members n.piece.file) n) member (old-for standby n (member_at standby.members n.piece.file) increment is_s kinds member refl (same k d inside))));
  blocks = let all = blocks-same (rolled_member standby) (λ n. refl) increment.members in let few = is.blocks in omega (arith, all, few);
}
