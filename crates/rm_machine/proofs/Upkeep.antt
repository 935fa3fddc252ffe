-- Records go, one after another, and the database goes on.
use Rattle.std.proofs.Common.{ℕ, List, [], ◌∷◌}
use Rattle.rm_catalog_typed.specs.TypedCatalog.{TypedCatalog}
use Rattle.rm_machine.specs.{Sound.{IsSound}, Upkeep.{with_catalog, without_all, without_record}, declared.state.State.{State}}
use Rattle.rm_machine.proofs.Entries.{GoesOn, then-on, without-on}

pub all-on : (ns : List ℕ) (s : State) → IsSound s → GoesOn s (without_all ns s.catalog)
all-on [] s sound = record { sound = λ is. is; borne = λ h objects made touched is. is; saved = λ none. none }
all-on (n ∷ ns) s sound =
    let first = without-on s n sound in
    let r : TypedCatalog = without_record n s.catalog in
    then-on s r (without_all ns r) first (all-on ns (with_catalog s r) (first.sound sound))
