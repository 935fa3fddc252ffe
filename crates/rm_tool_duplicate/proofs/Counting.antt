-- How many datafiles exist at a target: as many as there are numbers of them.
use Rattle.std.specs.Prelude.{count_by, filter}
use Rattle.std.proofs.Common.{◌≡◌, ◌<◌, ◌≤◌, ◌+◌, ◌-◌, ◌++◌, ◌∙◌, ℕ, zero, suc, Bool, true, false, cond, List, [], ◌∷◌, Some, get_or, length, take, refl, ap, sym, subst, arith}
use Rattle.std.proofs.{Math.Seq.{take-length}, lemmas.List.{length-append, Filters.{length-filter_more}, Sums.{length-filter}}}
use Rattle.std.proofs.lemmas.Option.{slice_get-get_or, slice_get_within}
use Rattle.rm_apply.{specs.Files.{AreExactly}, proofs.Numbers.{Below, all_numbers, one_more, one_past}}
use Rattle.rm_base.proofs.{OneOrder.{one-order}, Members.{none-in}}
use Rattle.rm_history.specs.{Tree.{IsThere}, World.{exists, file_of}, declared.world.{Datafile.{Datafile}, World.{World}}}
use Rattle.rm_history.proofs.Worlds.{file-there}
use Rattle.rm_machine.proofs.Numbers.{file-at}
use Rattle.rm_plan.specs.Plan.{IsFileTarget}

-- what stands past the end of the datafiles
abbrev no_datafile : Datafile
no_datafile = record { inc = 0; creation = 0; blocks = 0 }

-- the numbers of those among the first n that exist at the target
record Numbered (w : World) (i s n : ℕ) : Type 0 where
  pub numbers : List ℕ
  pub exact : AreExactly (Below (IsFileTarget w i s) (n + 1)) numbers
  pub many : length numbers ≡ length (filter (exists w i s) (take n w.files))

module _ (w : World) (i s : ℕ) (there : IsThere w.tree i) where
  no-zero : ¬ IsFileTarget w i s 0
  no-zero target = let clash = target.is in cc

  none-yet : Numbered w i s 0
  none-yet = record {
    numbers = [];
    exact = record {
      ascends = λ j k d less inside. absurd (omega (arith, inside));
      exact = λ f. ((λ has. absurd (none-in f has)), (λ wanted. let less = wanted.0 in let is : f ≡ 0 = omega (arith, less) in absurd (no-zero (subst (IsFileTarget w i s) is wanted.1))));
    };
    many = refl;
  }

  module _ (n : ℕ) (inside : n < length w.files) (before : Numbered w i s n) where
    abbrev next : Datafile
    next = get_or w.files n no_datafile

    is-next : file_of w (n + 1) ≡ Some next
    is-next =
        let here : file_of w (1 + n) ≡ Some next = file-at w n next (slice_get-get_or w.files n no_datafile inside) in
        let same : 1 + n ≡ n + 1 = omega arith in
        subst (λ f. file_of w f ≡ Some next) same here

    more : length (filter (exists w i s) (take (n + 1) w.files)) ≡ length (filter (exists w i s) (take n w.files)) + cond (exists w i s next) 1 0
    more = length-filter_more (exists w i s) w.files n no_datafile inside

    by-next : (b : Bool) → exists w i s next ≡ b → Numbered w i s (n + 1)
    by-next true is = record {
      numbers = before.numbers ++ (n + 1) ∷ [];
      exact = one_more (IsFileTarget w i s) (n + 1) before.numbers before.exact (record { there = there; datafile = next; is = is-next; exists = is });
      many = let one : ◌≡◌ {A = ℕ} (cond (exists w i s next) 1 0) 1 = ap (λ (b : Bool). cond b 1 0) is in let old = before.many in let new = more in let long = length-append before.numbers ((n + 1) ∷ []) in omega (arith, one, old, new, long);
    }
    by-next false is = record {
      numbers = before.numbers;
      exact = one_past (IsFileTarget w i s) (n + 1) before.numbers before.exact
          (λ target. let same : Some target.datafile ≡ Some next = sym target.is ∙ is-next in
          let one : target.datafile ≡ next = cc in
          let clash : true ≡ false = sym target.exists ∙ ap (exists w i s) one ∙ is in cc);
      many = let none : ◌≡◌ {A = ℕ} (cond (exists w i s next) 1 0) 0 = ap (λ (b : Bool). cond b 1 0) is in let old = before.many in let new = more in omega (arith, none, old, new);
    }

  numbered : (n : ℕ) → n ≤ length w.files → Numbered w i s n
  numbered zero most = none-yet
  numbered (suc n) most =
      let inside : n < length w.files = omega (arith, most) in
      let is : n + 1 ≡ suc n = omega arith in
      subst (Numbered w i s) is (by-next n inside (numbered n (omega (arith, most))) (exists w i s (next n inside (numbered n (omega (arith, most))))) refl)

  one-way : (m n : ℕ) → m < n → n < m → ⊥
  one-way m n less more = omega (arith, less, more)

  pub counted : (ns : List ℕ) → AreExactly (IsFileTarget w i s) ns → length ns ≡ count_by (exists w i s) w.files
  counted ns are =
      let all = numbered (length w.files) (omega arith) in
      let exact = all_numbers (IsFileTarget w i s) (length w.files + 1) all.numbers
      (λ f target. let at = file-there w f target.datafile target.is in let low = at.0 in let inside = slice_get_within w.files (f - 1) target.datafile at.1 in omega (arith, low, inside)) all.exact in
      let same : all.numbers ≡ ns = one-order (λ (a b : ℕ). a < b) one-way all.numbers ns exact.ascends are.ascends
      (λ f. ((λ has. (are.exact f).1 ((exact.exact f).0 has)), (λ has. (exact.exact f).1 ((are.exact f).0 has)))) in
      ap length (sym same) ∙ all.many ∙ ap (λ ds. length (filter (exists w i s) ds)) (take-length w.files) ∙ length-filter (exists w i s) w.files
