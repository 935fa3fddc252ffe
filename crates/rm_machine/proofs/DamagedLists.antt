-- Lists of blocks of which some go, or to which one comes.
use Rattle.std.specs.List.{list_any}
use Rattle.std.proofs.Common.{◌≡◌, ◌∙◌, ◌==◌, ◌&&◌, inl, inr, ℕ, List, [], ◌∷◌, Bool, true, false, cond, filter, refl, sym, subst, Contains}
use Rattle.std.proofs.lemmas.Bool.{and_from, and_parts, eq-eqb, eqb-true}
use Rattle.rm_base.{specs.declared.block.BlockId.{BlockId}, proofs.Lists.{any_fails, any_to, filter_to}}
use Rattle.rm_base.proofs.Members.{behind, first-or-rest, in-front, none-in}
use Rattle.rm_machine.specs.Damage.{has_block, has_file, is_before, with_block}

-- what is not on a longer list is not on a shorter one
pub any-fewer : (p : BlockId → Bool) (xs ys : List BlockId) → ((x : BlockId) → Contains xs x → p x ≡ true → Contains ys x) → list_any p ys ≡ false → list_any p xs ≡ false
any-fewer p xs ys within none = any_fails p xs (λ x has is. let some = any_to p ys x (within x has is) is in let clash : true ≡ false = sym some ∙ none in absurd (cc))

-- a datafile of which no block goes
pub file-stays : (xs : List BlockId) (q : BlockId → Bool) (f : ℕ) → ((x : BlockId) → x.file ≡ f → q x ≡ true) → has_file (filter q xs) f ≡ false → has_file xs f ≡ false
file-stays xs q f stays = any-fewer (λ x. x.file == f) xs (filter q xs) (λ x has is. filter_to q xs x has (stays x (eqb-true x.file f is)))

-- a block that stays if it is there
pub block-stays : (xs : List BlockId) (q : BlockId → Bool) (f b : ℕ) → ((x : BlockId) → x.file ≡ f → x.block ≡ b → q x ≡ true) → has_block (filter q xs) f b ≡ false → has_block xs f b ≡ false
block-stays xs q f b stays =
    any-fewer (λ x. (x.file == f) && (x.block == b)) xs (filter q xs)
    (λ x has is. let both = and_parts (x.file == f) (x.block == b) is in filter_to q xs x has (stays x (eqb-true x.file f both.0) (eqb-true x.block b both.1)))

-- it is on the list, by its numbers
pub is-block : (x : BlockId) (f b : ℕ) → x.file ≡ f → x.block ≡ b → ((x.file == f) && (x.block == b)) ≡ true
is-block x f b file block = and_from (x.file == f) (x.block == b) (eq-eqb x.file f file) (eq-eqb x.block b block)

-- blocks of the same numbers
pub same-block : (x : BlockId) (f b : ℕ) → ((x.file == f) && (x.block == b)) ≡ true → x ≡ record { file = f; block = b }
same-block x f b is =
    let both = and_parts (x.file == f) (x.block == b) is in
    let file = eqb-true x.file f both.0 in
    let block = eqb-true x.block b both.1 in
    λ i. record { file = file i; block = block i }

-- With a block more

-- a list with a block more has what it had, and the block
pub with-block-old : (x : BlockId) (ys : List BlockId) (z : BlockId) → Contains ys z → Contains (with_block x ys) z
with-block-old x [] z has = absurd (none-in z has)
with-block-old x (y ∷ ys) z has = by (is_before x y) ((x.file == y.file) && (x.block == y.block)) (elim (first-or-rest y ys z has) [
  | inl same ↦ subst (Contains (y ∷ with_block x ys)) same (in-front y (with_block x ys))
  | inr rest ↦ behind y (with_block x ys) z (with-block-old x ys z rest)
])
  where
    by : (b c : Bool) → Contains (y ∷ with_block x ys) z → Contains (cond b (x ∷ y ∷ ys) (cond c (y ∷ ys) (y ∷ with_block x ys))) z
    by true c on = behind x (y ∷ ys) z has
    by false true on = has
    by false false on = on

pub with-block-new : (x : BlockId) (ys : List BlockId) → Contains (with_block x ys) x
with-block-new x [] = in-front x []
with-block-new x (y ∷ ys) = by (is_before x y) ((x.file == y.file) && (x.block == y.block)) refl (with-block-new x ys)
  where
    by : (b c : Bool) → ((x.file == y.file) && (x.block == y.block)) ≡ c → Contains (with_block x ys) x → Contains (cond b (x ∷ y ∷ ys) (cond c (y ∷ ys) (y ∷ with_block x ys))) x
    by true c is rest = in-front x (y ∷ ys)
    by false true is rest = subst (Contains (y ∷ ys)) (sym (same-block x y.file y.block is)) (in-front y ys)
    by false false is rest = behind y (with_block x ys) x rest
