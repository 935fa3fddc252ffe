use Rattle.std.proofs.Common.{◌≡◌, ◌↔◌, ◌++◌, ℕ, List, Some, codes, rules, subst, sym}
use Rattle.rm_standby_store.specs.Names.{IsNumbered}
use Rattle.rm_standby_store.proofs.names.standby_number.Goals as goal

pub returns : goal.returns
returns c =
    let front : c.args.name.now ≡ codes "standby_" ++ c.in_ok-digits.digits.now = search rules in
    subst (λ (name : List ℕ). (k : ℕ) → c.number_of.result ≡ Some k ↔ IsNumbered name k) (sym front) c.number_of.ensures
