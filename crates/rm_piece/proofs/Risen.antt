-- Rows as they count in a set.
use Rattle.std.proofs.Common.{◌≡◌, ◌≢◌, ◌∙◌, ◌<◌, ◌≤◌, ℕ, List, [], ◌∷◌, if◌then◌else◌, nat_le, inl, inr, refl, ap, sym, subst, arith, length, get_or, map, All, Contains}
use Rattle.std.proofs.lemmas.{Bool.{cases_lt, lt-ltb, le-ltb, le-leb}, List.{get_or-map, length-map}}
use Rattle.std.proofs.lemmas.List.Elements.{All-contains_itself, All-filter, All-map}
use Rattle.rm_base.specs.{Created.{created_row}, Numbers.{last_scn}, declared.block.{Change.{Change}, Row.{Row}}}
use Rattle.rm_base.{specs.declared.kinds.Kind.TheVariants.{Place}, proofs.{Items.{All-tail}, Lists.{filter_all}}}
use Rattle.rm_history.specs.{Agrees.{IsRow as IsState}, History.{IsHistory}, State.{state}, World.{creation_of}}
use Rattle.rm_history.{specs.declared.world.World.{World}, proofs.States.{concerns-risen, state-held}}
use Rattle.rm_piece.specs.{Filling.{risen}, Rows.{IsWhole, from_on}, Sets.{IsMember, IsOf, IsSince}, Valid.{IsPiece, IsRow}}
use Rattle.rm_piece.{specs.declared.set.{Set.{Set}, SetFile.{SetFile}}, proofs.Filled.{at_creation}}

-- ---- one row

above-stays : (creation : ℕ) (r : Row) → creation < r.version → risen creation r ≡ r
above-stays creation r above = ap (λ t. if t then r else created_row creation r.block) (lt-ltb creation r.version above)

below-rises : (creation : ℕ) (r : Row) → r.version ≤ creation → risen creation r ≡ created_row creation r.block
below-rises creation r below = ap (λ t. if t then r else created_row creation r.block) (le-ltb creation r.version below)

block-stays : (creation : ℕ) (r : Row) → (risen creation r).block ≡ r.block
block-stays creation r = elim (cases_lt creation r.version) [
  | inl above ↦ ap (λ (x : Row). x.block) (above-stays creation r above)
  | inr below ↦ ap (λ (x : Row). x.block) (below-rises creation r below)
]

row-since : (creation : ℕ) (r : Row) → IsSince creation (risen creation r)
row-since creation r = elim (cases_lt creation r.version) [
  | inl above ↦ subst (IsSince creation) (sym (above-stays creation r above)) (record { since = omega (arith, above); zero = λ same. absurd (omega (arith, above, same)) })
  | inr below ↦ subst (IsSince creation) (sym (below-rises creation r below)) (record { since = omega arith; zero = λ same. refl })
]

row-stays : (creation : ℕ) (r : Row) → IsSince creation r → risen creation r ≡ r
row-stays creation r since = elim (cases_lt creation r.version) [
  | inl above ↦ above-stays creation r above
  | inr below ↦ below-rises creation r below ∙ at_creation creation r.block r since below refl
]

row-valid : (creation blocks : ℕ) (r : Row) → 1 ≤ creation → creation < last_scn → IsRow blocks 0 r → IsRow blocks 0 (risen creation r)
row-valid creation blocks r some below is = elim (cases_lt creation r.version) [
  | inl above ↦ subst (IsRow blocks 0) (sym (above-stays creation r above)) is
  | inr low ↦ subst (IsRow blocks 0) (sym (below-rises creation r low)) (record { block = is.block; version = (some, below); from = omega arith; content = refl })
]

-- ---- all rows

pub risen-since : (creation : ℕ) (rows : List Row) → All (IsSince creation) (map (risen creation) rows)
risen-since creation rows = All-map (IsSince creation) (risen creation) rows (λ k d inside. row-since creation (get_or rows k d))

pub risen-whole : (creation : ℕ) (rows : List Row) → IsWhole rows → IsWhole (map (risen creation) rows)
risen-whole creation rows whole k d inside =
    let within : k < length rows = omega (arith, inside, length-map rows (risen creation)) in
    ap (λ (r : Row). r.block) (get_or-map (risen creation) rows k d d within) ∙ block-stays creation (get_or rows k d) ∙ whole k d within

pub risen-valid : (creation blocks : ℕ) (rows : List Row) → 1 ≤ creation → creation < last_scn → All (IsRow blocks 0) rows → All (IsRow blocks 0) (map (risen creation) rows)
risen-valid creation blocks rows some below valid = All-map (IsRow blocks 0) (risen creation) rows (λ k d inside. row-valid creation blocks (get_or rows k d) some below (valid k d inside))

pub risen-same : (creation : ℕ) (rows : List Row) → All (IsSince creation) rows → map (risen creation) rows ≡ rows
risen-same creation [] since = refl
risen-same creation (r ∷ rs) since = λ i. row-stays creation r (since 0 r (omega arith)) i ∷ risen-same creation rs (All-tail (IsSince creation) r rs since) i

-- a state is as its datafile was created, or lies above that
state-since : (w : World) (h : List Change) (i s f b : ℕ) → IsHistory w h → IsSince (creation_of w f) (state w h i s f b)
state-since w h i s f b history = elim (state-held w h i s f b).held [
  | inl made ↦
      let above = concerns-risen w h i s f b made.change history made.is made.concerns in
      let version = made.version in
      record { since = omega (arith, above, version); zero = λ same. absurd (omega (arith, above, version, same)) }
  | inr untouched ↦ let version = untouched.version in record { since = omega (arith, version); zero = λ same. untouched.content }
]

pub states-same : (w : World) (h : List Change) (i f c : ℕ) (rows : List Row) → IsHistory w h → ((r : Row) → Contains rows r → IsState w h i f c r) → map (risen (creation_of w f)) rows ≡ rows
states-same w h i f c rows history are = risen-same (creation_of w f) rows (λ k d inside.
    let read = are (get_or rows k d) (All-contains_itself rows k d inside) in
    subst (IsSince (creation_of w f)) read.is (state-since w h i read.position f (get_or rows k d).block history))

-- ---- a member

-- none of them lies below an SCN up to the creation
from_on-all : (creation from : ℕ) (rows : List Row) → from ≤ creation → All (IsSince creation) rows → from_on from rows ≡ rows
from_on-all creation from rows low since = filter_all (λ (r : Row). nat_le from r.version) rows (λ k d inside. let above = (since k d inside).since in le-leb from _ (omega (arith, low, above)))

pub risen-member : (s : Set) (m : SetFile) (rows : List Row) → IsOf s m → IsPiece m.piece → m.piece.kind ≢ Place → 1 ≤ m.creation → m.creation < s.checkpoint → (m.piece.from ≤ m.creation → length rows ≡ m.piece.blocks) → m.piece.rows ≡ from_on m.piece.from (map (risen m.creation) rows) → IsMember s m
risen-member s m rows of piece backup some below many is =
    let since = risen-since m.creation rows in
    record {
      of = of;
      piece = piece;
      kind = backup;
      creation = (some, below);
      rows = subst (All (IsSince m.creation)) (sym is) (All-filter (λ (r : Row). nat_le m.piece.from r.version) (IsSince m.creation) (map (risen m.creation) rows) since);
      whole = λ low. ap (λ (xs : List Row). length xs) (is ∙ from_on-all m.creation m.piece.from (map (risen m.creation) rows) low since) ∙ length-map rows (risen m.creation) ∙ many low;
    }
