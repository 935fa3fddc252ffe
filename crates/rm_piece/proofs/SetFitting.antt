-- What is valid fits the types of its fields, and a spelling tells the set.
use Rattle.std.specs.List.{flat_map, sum_by}
use Rattle.std.proofs.Common.{◌≡◌, ◌∙◌, ◌+◌, ◌*◌, ◌^◌, ◌<◌, ◌≤◌, ℕ, List, [], ◌∷◌, ◌++◌, nat_lt, if◌then◌else◌, length, All, refl, ap, sym, subst, arith, append_assoc, inl, inr}
use Rattle.std.proofs.lemmas.{Bool.{cases_lt, le-ltb, lt-ltb}, List.{length-append, Elements.{All-filter}}}
use Rattle.std.proofs.lemmas.List.Sums.{length-filter, count_by-le-length, sum_by-cons}
use Rattle.rm_base.{specs.declared.block.Row.{Row}, proofs.{Items.{items_front, items_same, All-tail}, Sealing.{sealed_same, length-sealed}}}
use Rattle.rm_piece.specs.{Filling.{IsSpread, over}, Fits.{RowFits}, SetFits.{MemberHeadFits, SetHeadFits}}
use Rattle.rm_piece.specs.SetSpelling.{member_bytes, member_head, set_body, set_head, set_spelling, spelled}
use Rattle.rm_piece.specs.{Sets.{blocks_in, written, IsMember, IsOf, IsSet}, Spelling.{row_bytes}, declared.set.Set.{Set}}
use Rattle.rm_piece.{specs.declared.set.SetFile.{SetFile}, proofs.Bodies.{row_same, length-rows}}
use Rattle.rm_piece.proofs.{Filled.{filled_back, unwritten_from, written-all}, Fitting.{few_rows, fits}}
use Rattle.rm_piece.proofs.Highs.{count_fits}
use Rattle.rm_piece.proofs.{SetBodies.{SameMemberHead, length-member_head, length-set_head, member_head_same, set_head_same}, Whole.{whole}}

-- ---- a member

-- the same set but for its members has the same as a member
pub moved : (s t : Set) (m : SetFile) → s.dbid ≡ t.dbid → s.inc ≡ t.inc → s.checkpoint ≡ t.checkpoint → IsMember s m → IsMember t m
moved s t m dbid inc checkpoint is = record {
  of = record { dbid = is.of.dbid ∙ dbid; inc = is.of.inc ∙ inc; checkpoint = is.of.checkpoint ∙ checkpoint };
  piece = is.piece;
  kind = is.kind;
  creation = subst (λ c. (1 ≤ m.creation) × (m.creation < c)) checkpoint is.creation;
  rows = is.rows;
  whole = is.whole;
}

pub member_fits : (s : Set) (m : SetFile) → IsMember s m → MemberHeadFits m
member_fits s m is =
    let all = fits m.piece is.piece in
    let below = is.creation.1 in
    let same = is.of.checkpoint in
    let last = is.piece.checkpoint.1 in
    record {
      creation = omega arith;
      file = all.head.file;
      blocks = all.head.blocks;
      from = all.head.from;
      high = all.head.high;
    }

pub few_spelled : (creation : ℕ) (rows : List Row) → length (written creation rows) ≤ length rows
few_spelled creation rows =
    let is = length-filter (λ (r : Row). nat_lt creation r.version) rows in
    let few = count_by-le-length (λ (r : Row). nat_lt creation r.version) rows in
    omega (arith, is, few)

pub spelled_few : (s : Set) (m : SetFile) → IsMember s m → length (spelled m) < 2 ^ 32
spelled_few s m is =
    let few = few_spelled m.creation m.piece.rows in
    let rows = few_rows m.piece is.piece in
    omega (arith, few, rows)

pub spelled_fits : (s : Set) (m : SetFile) → IsMember s m → All RowFits (spelled m)
spelled_fits s m is = All-filter (λ (r : Row). nat_lt m.creation r.version) RowFits m.piece.rows (fits m.piece is.piece).rows

-- each block of a member has its row, but where it begins above the creation
pub spread : (s : Set) (m : SetFile) → IsMember s m → IsSpread m.creation m.piece.from m.piece.blocks m.piece.rows
spread s m is = record {
  begins = λ k d inside. (is.piece.rows k d inside).from;
  filled = λ low.
      let many = is.whole low in
      record {
        count = many;
        whole = whole m.piece.rows is.piece.ascend (λ k d inside. let block = (is.piece.rows k d inside).block in omega (arith, block, many));
        since = is.rows;
      };
}

-- the rows of a member, from those that are spelled
back : (creation from blocks : ℕ) → List Row → List Row
back creation from blocks rows = if nat_lt creation from then rows else over (unwritten_from creation 0 blocks) rows

-- where the rows begin above the creation, all are spelled
pub above-spelled : (creation from blocks : ℕ) (rows : List Row) → creation < from → IsSpread creation from blocks rows → written creation rows ≡ rows
above-spelled creation from blocks rows above is = written-all creation rows (λ k d inside. let low = is.begins k d inside in omega (arith, above, low))

rows_back : (creation from blocks : ℕ) (rows : List Row) → IsSpread creation from blocks rows → back creation from blocks (written creation rows) ≡ rows
unfolding back
rows_back creation from blocks rows is = elim (cases_lt creation from) [
  | inl above ↦
      ap (λ t. if t then written creation rows else over (unwritten_from creation 0 blocks) (written creation rows)) (lt-ltb creation from above)
      ∙ above-spelled creation from blocks rows above is
  | inr below ↦
      ap (λ t. if t then written creation rows else over (unwritten_from creation 0 blocks) (written creation rows)) (le-ltb creation from below)
      ∙ filled_back creation blocks rows (written creation rows) (is.filled below) refl
]

-- a member with other rows
abbrev pub with_rows : SetFile → List Row → SetFile
with_rows m rows = record { creation = m.creation; piece = record m.piece { rows = rows } }

-- a head and rows that a member has are this member
pub member_is : {s : Set} {head m : SetFile} {rows : List Row} {i n : ℕ} {x y : List ℕ} → IsOf s head → IsOf s m → SameMemberHead head m i n x y → rows ≡ m.piece.rows → with_rows head rows ≡ m
member_is of of_m same is =
    let dbid = of.dbid ∙ sym of_m.dbid in
    let inc = of.inc ∙ sym of_m.inc in
    let checkpoint = of.checkpoint ∙ sym of_m.checkpoint in
    λ j. record {
      creation = same.creation j;
      piece = record {
        kind = same.kind j;
        dbid = dbid j;
        inc = inc j;
        file = same.file j;
        blocks = same.blocks j;
        from = same.from j;
        checkpoint = checkpoint j;
        high = same.high j;
        rows = is j;
      };
    }

-- a member in front of other bytes is told by them
pub member_same : (s : Set) (m n : SetFile) (x y : List ℕ) → IsMember s m → IsMember s n → member_bytes m ++ x ≡ member_bytes n ++ y → (m ≡ n) × (x ≡ y)
unfolding member_bytes
member_same s m n x y is_m is_n e =
    let apart : member_head m (length (spelled m)) ++ (flat_map row_bytes (spelled m) ++ x) ≡ member_head n (length (spelled n)) ++ (flat_map row_bytes (spelled n) ++ y) = sym (append_assoc (member_head m (length (spelled m))) (flat_map row_bytes (spelled m)) x) ∙ e ∙ append_assoc (member_head n (length (spelled n))) (flat_map row_bytes (spelled n)) y in
    let head = member_head_same m n _ _ _ _ (member_fits s m is_m) (member_fits s n is_n) (spelled_few s m is_m) (spelled_few s n is_n) apart in
    let rows = items_front row_bytes RowFits row_same (spelled m) (spelled n) x y head.count (spelled_fits s m is_m) (spelled_fits s n is_n) head.rest in
    let of_m = rows_back m.creation m.piece.from m.piece.blocks m.piece.rows (spread s m is_m) in
    let of_n = rows_back n.creation n.piece.from n.piece.blocks n.piece.rows (spread s n is_n) in
    let same : m.piece.rows ≡ n.piece.rows = sym of_m ∙ (λ i. back (head.creation i) (head.from i) (head.blocks i) (rows.0 i)) ∙ of_n in
    (member_is is_m.of is_n.of head same, rows.1)

-- ---- a set

pub set_fits : (s : Set) → IsSet s → SetHeadFits s
set_fits s is = record { dbid = is.dbid; inc = is.inc; checkpoint = is.checkpoint }

pub few_members : (s : Set) → IsSet s → length s.members < 2 ^ 32
few_members s is = let few = is.few in omega (arith, few)

pub set_same : (s t : Set) → IsSet s → IsSet t → set_body s ≡ set_body t → s ≡ t
set_same s t is_s is_t e =
    let head = set_head_same s t (length s.members) (length t.members) _ _ (set_fits s is_s) (set_fits t is_t) (few_members s is_s) (few_members t is_t) e in
    let members : s.members ≡ t.members = items_same member_bytes (IsMember s) (member_same s) s.members t.members head.count is_s.members (λ k d inside. moved t s _ (sym head.dbid) (sym head.inc) (sym head.checkpoint) (is_t.members k d inside)) head.rest in
    λ i. record { dbid = head.dbid i; inc = head.inc i; checkpoint = head.checkpoint i; members = members i }

-- a spelling tells the set
pub spelling_same : (s t : Set) → IsSet s → IsSet t → set_spelling s ≡ set_spelling t → s ≡ t
spelling_same s t is_s is_t same = set_same s t is_s is_t (sealed_same _ _ same)

pub few_each : (s : Set) → IsSet s → All (λ m. length m.piece.rows < 2 ^ 32) s.members
few_each s is k d inside = let few = few_rows _ (is.members k d inside).piece in omega (arith, few)

-- ---- how many bytes

pub length-member : (s : Set) (m : SetFile) → IsMember s m → length (member_bytes m) ≡ 37 + 76 * length (spelled m)
unfolding member_bytes
length-member s m is =
    let both = length-append (member_head m (length (spelled m))) (flat_map row_bytes (spelled m)) in
    let head = length-member_head m (length (spelled m)) in
    let rows = length-rows (spelled m) (spelled_fits s m is) in
    omega (arith, both, head, rows)

length-members : (s : Set) (ms : List SetFile) → All (IsMember s) ms → length (flat_map member_bytes ms) ≡ 37 * length ms + 76 * sum_by (λ m. length (spelled m)) ms
length-members s [] all = omega arith
length-members s (m ∷ ms) all =
    let here = length-member s m (all 0 m (omega arith)) in
    let others = length-members s ms (All-tail (IsMember s) m ms all) in
    let both = length-append (member_bytes m) (flat_map member_bytes ms) in
    let sum = sum_by-cons (λ (n : SetFile). length (spelled n)) m ms in
    omega (arith, here, others, both, sum)

pub length-set : (s : Set) → IsSet s → length (set_spelling s) ≡ 57 + 37 * length s.members + 76 * sum_by (λ m. length (spelled m)) s.members
length-set s is =
    let whole = length-sealed (set_body s) in
    let both = length-append (set_head s (length s.members)) (flat_map member_bytes s.members) in
    let head = length-set_head s (length s.members) in
    let members = length-members s s.members is.members in
    omega (arith, whole, both, head, members)

spelled_most : (s : Set) (ms : List SetFile) → All (IsMember s) ms → sum_by (λ m. length (spelled m)) ms ≤ blocks_in ms
spelled_most s [] all = omega arith
spelled_most s (m ∷ ms) all =
    let is = (all 0 m (omega arith)).piece in
    let here = few_spelled m.creation m.piece.rows in
    let rows = count_fits m.piece.rows m.piece.blocks m.piece.from is.ascend is.rows in
    let others = spelled_most s ms (All-tail (IsMember s) m ms all) in
    let sum = sum_by-cons (λ (n : SetFile). length (spelled n)) m ms in
    let blocks = sum_by-cons (λ (n : SetFile). n.piece.blocks) m ms in
    omega (arith, here, rows, others, sum, blocks)

-- at most 76 for each block
pub length-set_most : (s : Set) → IsSet s → length (set_spelling s) ≤ 57 + 37 * length s.members + 76 * blocks_in s.members
length-set_most s is = let long = length-set s is in let most = spelled_most s s.members is.members in omega (arith, long, most)
