-- The list of a class: the lines of each record of it, by ascending ids.
use Rattle.std.specs.{List.{flat_map}, Option.{option_map}}
use Rattle.std.proofs.Common.{◌≡◌, ◌∙◌, ℕ, List, [], ◌∷◌, Option, Some, All, Contains, refl, ap, sym, subst}
use Rattle.std.proofs.lemmas.{List.Elements.{All-append, All-cons, All-map, All-nil}, Option.{same_Some}}
use Rattle.rm_base.{specs.declared.kinds.Class.{Class}, proofs.Members.{behind, in-front}}
use Rattle.rm_catalog.specs.declared.record.Record.{Record, TheVariants.{Log, Piece, Set}}
use Rattle.rm_evidence.{specs.{Gathered.{Lists}, Names.{object_id}}, proofs.Single.{IsOfOne}}
use Rattle.rm_report.specs.{Reply.{IsPlain}, declared.line.Line.{Line}}
use Rattle.rm_catalog_typed.specs.TypedCatalog.{records_of}
use Rattle.rm_verify.{specs.{Classes.{is_of}, Told.{Tells}}, proofs.{Checked.{passed}, Growing.{one-told, told-of-one}}}
use Rattle.rm_machine.specs.{Effect.{told}, Lists.{IsListed, IsListOutcome, lines_in, listed, part_line}, declared.state.State.{State}}

-- a record and its lines
abbrev pub Lines : Type 0
Lines = ℕ × List Line

-- the lines of a record are those of the object of its id
ids-are : (r : Record) → object_id r ≡ option_map (λ (x : Lines). x.0) (lines_in r)
ids-are (Log l) = refl
ids-are (Piece p) = refl
ids-are (Set e) = refl
ids-are _ = refl

-- and no line has a moment
lines-dated : (r : Record) (x : Lines) → lines_in r ≡ Some x → All IsPlain x.1
lines-dated (Log l) x is = subst (λ (y : Lines). All IsPlain y.1) (same_Some _ x is) (All-cons IsPlain _ [] tt (All-nil IsPlain))
lines-dated (Piece p) x is = subst (λ (y : Lines). All IsPlain y.1) (same_Some _ x is) (All-cons IsPlain _ [] tt (All-nil IsPlain))
lines-dated (Set e) x is = subst (λ (y : Lines). All IsPlain y.1) (same_Some _ x is) (All-map IsPlain (part_line e) e.parts (λ k d inside. tt))
lines-dated _ x is = absurd cc

all-dated : (xs : List Lines) → ((x : Lines) → Contains xs x → All IsPlain x.1) → All IsPlain (flat_map (λ x. x.1) xs)
all-dated [] each = All-nil IsPlain
all-dated (x ∷ xs) each = All-append IsPlain x.1 (flat_map (λ (y : Lines). y.1) xs) (each x (in-front x xs)) (all-dated xs (λ y has. each y (behind x xs y has)))

module _ (class : Class) where
  numbered : (r : Record) (id : ℕ) (lines : List Line) → listed class r ≡ Some (id, lines) → object_id r ≡ Some id
  numbered r id lines is = ids-are r ∙ ap (λ (o : Option Lines). option_map (λ (x : Lines). x.0) o) (passed (is_of class r) (lines_in r) (id, lines) is).1

  pub is-of-one : IsOfOne (List Line) (λ rs. IsListed rs class)
  is-of-one = told-of-one (listed class) numbered

  pub tells : (r : Record) (found : Option Lines) → found ≡ listed class r → Tells (IsListed (r ∷ []) class) found
  tells = one-told (listed class) numbered

module _ (s : State) (class : Class) (rs : List Record) (of : rs ≡ records_of s.catalog) (all : List Lines) (is : Lists (List Line) [] (IsListed rs class) all) (lines : List Line) (same : lines ≡ flat_map (λ x. x.1) all) where
  pub lists : IsListOutcome s class (told lines)
  lists = record { all = all; lists = subst (λ (qs : List Record). Lists (List Line) [] (IsListed qs class) all) of is; is = ap told same }

  pub dated : All IsPlain lines
  dated =
      let each : (x : Lines) → Contains all x → All IsPlain x.1 = λ x has.
      let from = (is.exact x.0 x.1).0 (subst (λ (ys : List Lines). Contains ys x) is.list has) in
      lines-dated from.0 x (passed (is_of class from.0) (lines_in from.0) x from.2).1 in
      subst (All IsPlain) (sym same) (all-dated all each)
