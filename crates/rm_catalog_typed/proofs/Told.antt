-- What stands at each place of a catalog's records.
use Rattle.std.specs.{Prelude.{IsSome, IsSomeAnd, option_and_then}, List.{filter_map}, Option.{option_map_or}}
use Rattle.std.proofs.Common.{◌≡◌, ◌∙◌, ℕ, ◌<◌, inl, inr, List, [], ◌∷◌, Option, Some, None, refl, ap, sym, subst, arith, Contains, AllPairs}
use Rattle.std.proofs.lemmas.Option.{option_and_then_some}
use Rattle.rm_catalog.specs.Keys.{at, base, base_in, head_in, incarnation, incarnation_in, log_in, part_in, piece_in, place, place_of, set_in, IsThere as HasKey}
use Rattle.rm_catalog.specs.{Facts.{BaseRule}, Objects.{LogRule, PieceRule}, Saved.{HeadRule, PartRule}, SetRules.{SetRule}}
use Rattle.rm_catalog.specs.{Rules.{IsCatalog}, Trees.{nodes}, declared.record.{BaseEntry.{BaseEntry}, HeadEntry.{HeadEntry}}}
use Rattle.rm_catalog.specs.declared.record.{IncarnationEntry.{IncarnationEntry}, LogEntry.{LogEntry}, PartEntry.{PartEntry}}
use Rattle.rm_catalog.{specs.declared.record.{PieceEntry.{PieceEntry}, Record.{Record}, SetEntry.{SetEntry}}, proofs.Told.{found_is}}
use Rattle.rm_catalog.proofs.{Trees.{in_tree_is}, Numbering.{at-is, obeys}, Incarnations.{found-there, reset-is}}
use Rattle.rm_catalog.specs.declared.record.Record.TheVariants as records
use Rattle.rm_base.proofs.Members.{first-or-rest, none-in}
use Rattle.rm_history.specs.Tree.{IsThere, reset_of, end_of}
use Rattle.rm_history.specs.declared.tree.Incarnation as tree
use Rattle.rm_catalog_typed.proofs.ByKind.{is-base, is-head, is-incarnation, is-log, is-part, is-piece, is-set, made, placed, told-in-order, told-is}

pub log-rule : (rs : List Record) (e : LogEntry) → IsCatalog rs → Contains (filter_map log_in rs) e → LogRule rs e
log-rule rs e c has = (obeys rs (records.Log e) c (made records.Log log_in 4 is-log rs e has)).own

pub piece-rule : (rs : List Record) (e : PieceEntry) → IsCatalog rs → Contains (filter_map piece_in rs) e → PieceRule rs e
piece-rule rs e c has = (obeys rs (records.Piece e) c (made records.Piece piece_in 5 is-piece rs e has)).own

pub set-rule : (rs : List Record) (e : SetEntry) → IsCatalog rs → Contains (filter_map set_in rs) e → SetRule rs e
set-rule rs e c has = (obeys rs (records.Set e) c (made records.Set set_in 9 is-set rs e has)).own

pub part-rule : (rs : List Record) (e : PartEntry) → IsCatalog rs → Contains (filter_map part_in rs) e → PartRule rs e
part-rule rs e c has = (obeys rs (records.Part e) c (made records.Part part_in 7 is-part rs e has)).own

pub head-rule : (rs : List Record) (e : HeadEntry) → IsCatalog rs → Contains (filter_map head_in rs) e → HeadRule rs e
head-rule rs e c has = (obeys rs (records.Head e) c (made records.Head head_in 8 is-head rs e has)).own

-- a record's key is there
pub has-key : (rs : List Record) (r : Record) (of id : ℕ) → IsCatalog rs → Contains rs r → place_of r ≡ place of id → HasKey of id rs
has-key rs r of id c has here = subst (λ (o : Option Record). IsSome o) (sym (ap (λ p. at p rs) (sym here) ∙ at-is rs r c has)) refl

-- what is found as the base facts is a record
pub base-record : (rs : List Record) (b : BaseEntry) → base rs ≡ Some b → Contains rs (records.Base b)
base-record rs b h = option_and_then_some base_in (at (place 1 0) rs) b h (λ y e told. subst (Contains rs) (told-is records.Base base_in 1 is-base y b told) (found_is rs (place 1 0) y e).0)

pub base-rule : (rs : List Record) (b : BaseEntry) → IsCatalog rs → base rs ≡ Some b → BaseRule rs b
base-rule rs b c h = (obeys rs (records.Base b) c (base-record rs b h)).own

-- what holds of the base facts
pub on-base : (rs : List Record) (b : BaseEntry) (P : BaseEntry → Type 0) → base rs ≡ Some b → IsSomeAnd (base rs) P → P b
on-base rs b P h some = subst (λ (o : Option BaseEntry). IsSomeAnd o P) h some

pub end-is : (rs : List Record) (n : ℕ) (i : IncarnationEntry) → IsCatalog rs → incarnation n rs ≡ Some i → end_of (nodes rs) n ≡ i.end
end-is rs n i c h = ap (λ (o : Option tree.Incarnation). option_map_or (λ (x : tree.Incarnation). x.end) o 0) (in_tree_is rs n i c h)

-- an incarnation of which something holds
pub record On (rs : List Record) (n : ℕ) (P : IncarnationEntry → Type 0) : Type 0 where
  pub entry : IncarnationEntry
  pub found : incarnation n rs ≡ Some entry
  pub holds : P entry
  pub there : IsThere (nodes rs) n
  pub reset : reset_of (nodes rs) n ≡ entry.reset
  pub end : end_of (nodes rs) n ≡ entry.end

pub on-incarnation : (rs : List Record) (n : ℕ) (P : IncarnationEntry → Type 0) → IsCatalog rs → IsSomeAnd (incarnation n rs) P → On rs n P
on-incarnation rs n P c some = decide (incarnation n rs) refl some
  where
    decide : (o : Option IncarnationEntry) → incarnation n rs ≡ o → IsSomeAnd o P → On rs n P
    decide None e some = absurd some
    decide (Some i) e some = record { entry = i; found = e; holds = some; there = found-there rs n i c e; reset = reset-is rs n i c e; end = end-is rs n i c e }

-- an incarnation whose key is there is there
pub key-there : (rs : List Record) (n : ℕ) → IsCatalog rs → HasKey 2 n rs → IsThere (nodes rs) n
key-there rs n c some = let p = placed records.Incarnation incarnation_in 2 is-incarnation rs n some in found-there rs n p.entry c (ap (option_and_then incarnation_in) p.found)

-- what is told at one place alone is told once at most
pub AtMostOne : {A : Type 0} → List A → Type 0
AtMostOne {A} xs = AllPairs (λ (x y : A). 0 < 0) xs

pub bases-few : (rs : List Record) → IsCatalog rs → AtMostOne (filter_map base_in rs)
unfolding AtMostOne
bases-few rs c = told-in-order records.Base base_in 1 is-base (λ x. 0) (λ x. refl) rs c

pub heads-few : (rs : List Record) → IsCatalog rs → AtMostOne (filter_map head_in rs)
unfolding AtMostOne
heads-few rs c = told-in-order records.Head head_in 8 is-head (λ x. 0) (λ x. refl) rs c

pub one-alone : {A : Type 0} (xs : List A) (x : A) → AtMostOne xs → Contains xs x → xs ≡ x ∷ []
unfolding AtMostOne
one-alone [] x few has = absurd (none-in x has)
one-alone (y ∷ []) x few has = elim (first-or-rest y [] x has) [ inl same ↦ ap (λ z. z ∷ []) same | inr none ↦ absurd (none-in x none) ]
one-alone (y ∷ z ∷ zs) x few has = absurd (let no = few 0 1 y (omega arith) (omega arith) in omega arith)

pub head-alone : {A : Type 0} (x : A) (xs : List A) → AtMostOne (x ∷ xs) → xs ≡ []
unfolding AtMostOne
head-alone x [] few = refl
head-alone x (y ∷ ys) few = absurd (let no = few 0 1 x (omega arith) (omega arith) in omega arith)
