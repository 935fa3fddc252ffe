-- One step up a path.
use Rattle.std.specs.Option.{option_map_or}
use Rattle.std.proofs.Common.{◌≡◌, ℕ, suc, ◌+◌, ◌-◌, ◌<◌, ◌≤◌, Bool, true, false, leb, cond, List, Option, Some, None, ap, sym, ◌∙◌, arith}
use Rattle.std.proofs.lemmas.Bool.Decides.{nat_tests}
use Rattle.rm_catalog.specs.{Keys.{incarnation}, Objects.{owner_in}, declared.record.{Record.{Record}, IncarnationEntry.{IncarnationEntry}}}

is_le : (m n : ℕ) → m ≤ n → leb m n ≡ true
is_le m n h = grind (arith, nat_tests)

is_over : (m n : ℕ) → n < m → leb m n ≡ false
is_over m n h = grind (arith, nat_tests)

step : (rs : List Record) (n m i g : ℕ) (o : Option IncarnationEntry) → n ≡ suc m → o ≡ incarnation i rs → owner_in n i g rs ≡ option_map_or (λ (x : IncarnationEntry). cond (leb x.reset g) i (owner_in m x.parent g rs)) o 1
unfolding owner_in
step rs n m i g o count is = ap (λ (k : ℕ). owner_in k i g rs) count ∙ ap (λ (o : Option IncarnationEntry). option_map_or (λ (x : IncarnationEntry). cond (leb x.reset g) i (owner_in m x.parent g rs)) o 1) (sym is)

pub stops_none : (rs : List Record) (steps at now g total : ℕ) (o : Option IncarnationEntry) → at < steps → o ≡ incarnation now rs → o ≡ None → owner_in (steps - at) now g rs ≡ total → 1 ≡ total
stops_none rs steps at now g total o lt is none so_far = sym (step rs (steps - at) (steps - (at + 1)) now g None (omega arith) (sym none ∙ is)) ∙ so_far

pub stops_here : (rs : List Record) (steps at now g total : ℕ) (o : Option IncarnationEntry) (x : IncarnationEntry) → at < steps → o ≡ incarnation now rs → o ≡ Some x → x.reset ≤ g → owner_in (steps - at) now g rs ≡ total → now ≡ total
stops_here rs steps at now g total o x lt is some le so_far =
    sym (step rs (steps - at) (steps - (at + 1)) now g (Some x) (omega arith) (sym some ∙ is) ∙ ap (λ (b : Bool). cond b now (owner_in (steps - (at + 1)) x.parent g rs)) (is_le x.reset g le)) ∙ so_far

pub goes_on : (rs : List Record) (steps at now g total : ℕ) (o : Option IncarnationEntry) (x : IncarnationEntry) → at < steps → o ≡ incarnation now rs → o ≡ Some x → g < x.reset → owner_in (steps - at) now g rs ≡ total → owner_in (steps - (at + 1)) x.parent g rs ≡ total
goes_on rs steps at now g total o x lt is some over so_far =
    sym (step rs (steps - at) (steps - (at + 1)) now g (Some x) (omega arith) (sym some ∙ is) ∙ ap (λ (b : Bool). cond b now (owner_in (steps - (at + 1)) x.parent g rs)) (is_over x.reset g over)) ∙ so_far

none_left : (rs : List Record) (n now g : ℕ) → n ≡ 0 → owner_in n now g rs ≡ 1
unfolding owner_in
none_left rs n now g e = ap (λ (k : ℕ). owner_in k now g rs) e

pub ends : (rs : List Record) (steps at now g total : ℕ) → steps ≤ at → owner_in (steps - at) now g rs ≡ total → 1 ≡ total
ends rs steps at now g total past so_far = sym (none_left rs (steps - at) now g (omega arith)) ∙ so_far
