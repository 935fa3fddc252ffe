-- The rows of version at least `from` as a level 1.
use Rattle.std.proofs.Common.{◌≡◌, ◌≢◌, ◌<◌, ◌≤◌, ◌∙◌, inl, inr, nat_le, ℕ, List, [], true, false, refl, sym, subst, arith, length, get_or, eqb, Contains}
use Rattle.std.proofs.lemmas.{Bool.{cases_lt, eq-eqb, le-leb, leb-true}, List.{get_or_default, Elements.{All-contains}}}
use Rattle.std.proofs.lemmas.List.{Folds.{list_any-from_Any}, Kept.{AllPairs-filter}}
use Rattle.rm_base.specs.declared.{block.{Change.{Change}, Row.{Row}}, kinds.Kind.TheVariants.{Level1}}
use Rattle.rm_base.proofs.Lists.{filter_from, filter_to}
use Rattle.rm_history.specs.{Agrees.{IsBelow, BaseAgrees, Level1Agrees, lists}, State.{state}, World.{blocks_of}}
use Rattle.rm_history.specs.declared.world.World.{World}
use Rattle.rm_history.specs.Agrees as agrees
use Rattle.rm_piece.specs.{Artefacts.{base_of, level1_of}, Level1s.{AreRead, IsRead, picked}, Rows.{from_on}}
use Rattle.rm_piece.{specs.{Valid.{IsPiece, IsRow, IsBefore}, declared.piece.Piece.{Piece}}, proofs.Whole.{full, placed}}

is_listed : (rows : List Row) (r : Row) (b : ℕ) → Contains rows r → r.block ≡ b → lists rows b ≡ true
is_listed rows r b held same = list_any-from_Any (λ x. eqb x.block b) rows (held.0, r, held.1, held.2, eq-eqb r.block b same)

-- a block whose row is not listed was below `from`
below_of : (w : World) (h : List Change) (i f c from b : ℕ) (rows : List Row) (r : Row) → agrees.IsRow w h i f c r → Contains rows r → r.block ≡ b → lists (from_on from rows) b ≡ false → IsBelow w h i f c from b
below_of w h i f c from b rows r is held same unlisted = elim (cases_lt r.version from) [
  | inl below ↦
      record {
        position = is.position;
        after = is.after;
        below = subst (λ (n : ℕ). (state w h i is.position f n).version < from) same (subst (λ (x : Row). x.version < from) (sym is.is) below);
      }
  | inr above ↦
      let there = is_listed (from_on from rows) r b (filter_to (λ x. nat_le from x.version) rows r held (le-leb from r.version above)) same in
      let both : true ≡ false = sym there ∙ unlisted in
      absurd (cc)
]

pub picked_agrees : (w : World) (h : List Change) (i f c from : ℕ) (rows : List Row) → AreRead w h i f c from rows → Level1Agrees w h (record { inc = i; file = f; from = from; checkpoint = c; rows = from_on from rows })
picked_agrees w h i f c from rows are = record {
  listed = λ r held.
      let source = filter_from (λ x. nat_le from x.version) rows r held in
      (are.read r source.0, leb-true from r.version source.1);
  unlisted = λ b inside unlisted. elim (are.others b inside) [
    | inl one ↦ below_of w h i f c from b rows one.row (are.read one.row one.held) one.held one.is unlisted
    | inr below ↦ below
  ];
}

-- a copy has a row of each block
has_row : (p : Piece) → IsPiece p → p.kind ≢ Level1 → (b : ℕ) → b < p.blocks → IsRead p.rows b
has_row p is other b inside =
    let many = full p is other in
    let within : b < length p.rows = omega (arith, many, inside) in
    let none : Row = record { block = 0; version = 0; content = record { 0 = [] } } in
    record {
      row = get_or p.rows b none;
      held = (b, within, get_or_default p.rows b (get_or p.rows b none) none within);
      is = placed p is other b none within;
    }

pub copy_picked : (w : World) (h : List Change) (p : Piece) (from : ℕ) → IsPiece p → p.kind ≢ Level1 → blocks_of w p.file ≡ p.blocks → BaseAgrees w h (base_of p) → Level1Agrees w h (level1_of (picked from p))
copy_picked w h p from is other same base =
    picked_agrees w h p.inc p.file p.checkpoint from p.rows (record { read = base; others = λ b inside. inl (has_row p is other b (omega (arith, inside, same))) })

pub picked_valid : (p : Piece) (from : ℕ) → IsPiece p → 1 ≤ from → from ≤ p.checkpoint → IsPiece (picked from p)
picked_valid p from is some most = record {
  dbid = is.dbid;
  inc = is.inc;
  file = is.file;
  blocks = is.blocks;
  checkpoint = is.checkpoint;
  kind = (some, most);
  ascend = AllPairs-filter IsBefore (λ r. nat_le from r.version) p.rows is.ascend;
  rows = λ k d inside.
      let e = get_or (from_on from p.rows) k d in
      let source = filter_from (λ r. nat_le from r.version) p.rows e (k, inside, get_or_default (from_on from p.rows) k e d inside) in
      let row = All-contains (IsRow p.blocks p.from) p.rows e is.rows source.0 in
      record { block = row.block; version = row.version; from = leb-true from e.version source.1; content = row.content };
  high = refl;
}
