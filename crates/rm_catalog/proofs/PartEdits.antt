-- Edits of one part of the records, and of parts one after another.
use Rattle.std.proofs.Common.{◌≡◌, ◌∙◌, ℕ, suc, ◌+◌, ◌<◌, ◌≤◌, List, [], ◌∷◌, ◌++◌, length, map, refl, ap, sym, subst, arith, All}
use Rattle.std.proofs.lemmas.List.{append-nil, append_assoc, get_or-append-add, length-append}
use Rattle.std.proofs.lemmas.List.Elements.{All-nil, All-cons, All-append, All-map}
use Rattle.rm_catalog.specs.{Keys.{place_of, place_of_key}, Edits.{below, above, place_of_edit, after_edit, after_edits}}
use Rattle.rm_catalog.specs.declared.record.{Record.{Record}, Edit.{Edit, TheVariants.{Put, Drop}}}
use Rattle.rm_catalog.proofs.Filters.{after_both, below_all, below_none, below_append, above_all, above_none, above_append}
use Rattle.rm_catalog.proofs.{Passing.{after_append, put_last}, Unique.{Rises, all_above, middle}, Running.{Runs, runs-within, runs-rise}}

-- an edit above what stands in front leaves that alone
after_front : (e : Edit) (front rest : List Record) → All (λ r. place_of r < place_of_edit e) front → after_edit e (front ++ rest) ≡ front ++ after_edit e rest
after_front (Put r) front rest under =
    let p = place_of r in
    let low : below p (front ++ rest) ≡ front ++ below p rest = below_append p front rest ∙ ap (λ (x : List Record). x ++ below p rest) (below_all p front under) in
    let high : above p (front ++ rest) ≡ above p rest = above_append p front rest ∙ ap (λ (x : List Record). x ++ above p rest) (above_none p front (λ k d lt. let h = under k d lt in omega arith)) in
    ap (λ (x : List Record). x ++ r ∷ above p (front ++ rest)) low ∙ ap (λ (x : List Record). (front ++ below p rest) ++ r ∷ x) high
    ∙ append_assoc front (below p rest) (r ∷ above p rest)
after_front (Drop key) front rest under =
    let p = place_of_key key in
    let low : below p (front ++ rest) ≡ front ++ below p rest = below_append p front rest ∙ ap (λ (x : List Record). x ++ below p rest) (below_all p front under) in
    let high : above p (front ++ rest) ≡ above p rest = above_append p front rest ∙ ap (λ (x : List Record). x ++ above p rest) (above_none p front (λ k d lt. let h = under k d lt in omega arith)) in
    ap (λ (x : List Record). x ++ above p (front ++ rest)) low ∙ ap (λ (x : List Record). (front ++ below p rest) ++ x) high
    ∙ append_assoc front (below p rest) (above p rest)

-- an edit that replaces the first record
pub after_first : (r first : Record) (rest : List Record) → place_of first ≡ place_of r → All (λ x. place_of r < place_of x) rest → after_edit (Put r) (first ∷ rest) ≡ r ∷ rest
after_first r first rest same over =
    let p = place_of r in
    let from = All-cons (λ (x : Record). p ≤ place_of x) first rest (omega arith) (λ k d lt. let h = over k d lt in omega arith) in
    let upto = All-cons (λ (x : Record). place_of x ≤ p) first [] (omega arith) (All-nil (λ (x : Record). place_of x ≤ p)) in
    let low : below p (first ∷ rest) ≡ [] = below_none p (first ∷ rest) from in
    let high : above p (first ∷ rest) ≡ rest = above_append p (first ∷ []) rest ∙ ap (λ (x : List Record). x ++ above p rest) (above_none p (first ∷ []) upto) ∙ above_all p rest over in
    ap (λ (x : List Record). x ++ r ∷ above p (first ∷ rest)) low ∙ ap (λ (x : List Record). r ∷ x) high

-- an edit that replaces a record behind the first
pub after_rest : (e : Edit) (first : Record) (rest : List Record) → place_of first < place_of_edit e → after_edit e (first ∷ rest) ≡ first ∷ after_edit e rest
after_rest e first rest under =
    after_front e (first ∷ []) rest (All-cons (λ (x : Record). place_of x < place_of_edit e) first [] under (All-nil (λ (x : Record). place_of x < place_of_edit e)))

-- an edit above all records
after_last : (r : Record) (rs : List Record) → All (λ x. place_of x < place_of r) rs → after_edit (Put r) rs ≡ rs ++ r ∷ []
after_last r rs under =
    sym (put_last (Put r) r rs refl (λ k d lt. let h = under k d lt in omega arith)) ∙ ap (λ (x : List Record). x ++ r ∷ []) (below_all (place_of r) rs under)

-- where records rise, those in front of one stand below it
rises_front : (low : ℕ) (front : List Record) (r : Record) (rest : List Record) → Rises low (front ++ r ∷ rest) → All (λ x. place_of x < place_of r) front
unfolding Rises
rises_front low [] r rest up = All-nil (λ (x : Record). place_of x < place_of r)
rises_front low (x ∷ xs) r rest up =
    let over = all_above (place_of x + 1) (xs ++ r ∷ rest) up.1 r (middle xs r rest) in
    All-cons (λ (y : Record). place_of y < place_of r) x xs (omega arith) (rises_front (place_of x + 1) xs r rest up.1)

-- records that rise behind those that are there are added in order
puts_after : (low : ℕ) (old new : List Record) → Rises low (old ++ new) → after_edits (map Put new) old ≡ old ++ new
puts_after low old [] up = sym (append-nil old)
puts_after low old (r ∷ rs) up =
    let moved = append_assoc old (r ∷ []) rs in
    ap (λ (x : List Record). after_edits (map Put rs) x) (after_last r old (rises_front low old r rs up))
    ∙ puts_after low (old ++ r ∷ []) rs (subst (λ (x : List Record). Rises low x) (sym moved) up)
    ∙ moved

-- edits below a place leave alone what stands behind it
all_behind : (p : ℕ) (es : List Edit) (made rest : List Record) → All (λ e. place_of_edit e < p) es → All (λ r. p ≤ place_of r) rest → after_edits es (made ++ rest) ≡ after_edits es made ++ rest
all_behind p [] made rest low high = refl
all_behind p (e ∷ es) made rest low high =
    let first : place_of_edit e < p = low 0 e (omega arith) in
    ap (λ (x : List Record). after_edits es x) (after_append e made rest (λ k d lt. let h = high k d lt in omega arith))
    ∙ all_behind p es (after_edit e made) rest (λ k d lt. low (suc k) d (omega arith)) high

-- edits from a place on leave alone what stands in front of it
all_front : (p : ℕ) (es : List Edit) (front rest : List Record) → All (λ r. place_of r < p) front → All (λ e. p ≤ place_of_edit e) es → after_edits es (front ++ rest) ≡ front ++ after_edits es rest
all_front p [] front rest low high = refl
all_front p (e ∷ es) front rest low high =
    let first : p ≤ place_of_edit e = high 0 e (omega arith) in
    ap (λ (x : List Record). after_edits es x) (after_front e front rest (λ k d lt. let h = low k d lt in omega arith))
    ∙ all_front p es front (after_edit e rest) low (λ k d lt. high (suc k) d (omega arith))

-- the edits make the new records of the old ones, all from `low` up to, and without, `high`
pub record IsPart (low high : ℕ) (es : List Edit) (old new : List Record) : Type 0 where
  pub from : All (λ e. low ≤ place_of_edit e) es
  pub upto : All (λ e. place_of_edit e < high) es
  pub old_from : All (λ r. low ≤ place_of r) old
  pub new_upto : All (λ r. place_of r < high) new
  pub same : after_edits es old ≡ new

-- two parts, one behind the other, are a part
pub part_then : (low mid from high : ℕ) (es fs : List Edit) (old new old' new' : List Record) → low ≤ mid → mid ≤ from → from ≤ high → IsPart low mid es old new → IsPart from high fs old' new' → IsPart low high (es ++ fs) (old ++ old') (new ++ new')
part_then low mid from high es fs old new old' new' le le' le'' a b =
    let b_from : All (λ (e : Edit). mid ≤ place_of_edit e) fs = λ k d lt. let h = b.from k d lt in omega arith in
    let b_old : All (λ (r : Record). mid ≤ place_of r) old' = λ k d lt. let h = b.old_from k d lt in omega arith in
    record {
      from = All-append (λ (e : Edit). low ≤ place_of_edit e) es fs a.from (λ k d lt. let h = b_from k d lt in omega arith);
      upto = All-append (λ (e : Edit). place_of_edit e < high) es fs (λ k d lt. let h = a.upto k d lt in omega arith) b.upto;
      old_from = All-append (λ (r : Record). low ≤ place_of r) old old' a.old_from (λ k d lt. let h = b_old k d lt in omega arith);
      new_upto = All-append (λ (r : Record). place_of r < high) new new' (λ k d lt. let h = a.new_upto k d lt in omega arith) b.new_upto;
      same =
          after_both es fs (old ++ old')
          ∙ ap (λ (x : List Record). after_edits fs x) (all_behind mid es old old' a.upto b_old ∙ ap (λ (x : List Record). x ++ old') a.same)
          ∙ all_front mid fs new old' a.new_upto b_from
          ∙ ap (λ (x : List Record). new ++ x) b.same;
    }

-- one edit that makes one run of records of another is a part
pub put_part : (low high : ℕ) (r : Record) (old new : List Record) → (low ≤ place_of r) × (place_of r < high) → Runs low high old → Runs low high new → after_edit (Put r) old ≡ new → IsPart low high (Put r ∷ []) old new
put_part low high r old new within up down same = record {
  from = All-cons (λ (e : Edit). low ≤ place_of_edit e) (Put r) [] within.0 (All-nil (λ (e : Edit). low ≤ place_of_edit e));
  upto = All-cons (λ (e : Edit). place_of_edit e < high) (Put r) [] within.1 (All-nil (λ (e : Edit). place_of_edit e < high));
  old_from = λ k d lt. (runs-within low high old up k d lt).0;
  new_upto = λ k d lt. (runs-within low high new down k d lt).1;
  same = same;
}

-- a run that goes on behind another is a part
pub more_part : (low high : ℕ) (old new : List Record) → Runs low high old → Runs low high (old ++ new) → IsPart low high (map Put new) old (old ++ new)
more_part low high old new up down =
    let within = runs-within low high (old ++ new) down in
    let long = length-append old new in
    let behind : All (λ (r : Record). (low ≤ place_of r) × (place_of r < high)) new = λ k d lt.
    subst (λ (r : Record). (low ≤ place_of r) × (place_of r < high)) (get_or-append-add old new k d) (within (length old + k) d (omega arith))
    in
    record {
      from = All-map (λ (e : Edit). low ≤ place_of_edit e) Put new (λ k d lt. (behind k d lt).0);
      upto = All-map (λ (e : Edit). place_of_edit e < high) Put new (λ k d lt. (behind k d lt).1);
      old_from = λ k d lt. (runs-within low high old up k d lt).0;
      new_upto = λ k d lt. (within k d lt).1;
      same = puts_after low old new (runs-rise low high (old ++ new) down);
    }
