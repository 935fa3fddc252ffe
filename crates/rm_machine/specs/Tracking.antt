-- ALTER DATABASE (ENABLE | DISABLE) BLOCK CHANGE TRACKING
use Rattle.std.specs.Prelude.{◌≡◌, Bool, [], ◌∷◌}
use Rattle.rm_report.specs.declared.line.Line.TheVariants as line
use Rattle.rm_catalog_typed.specs.{Changes.{with_base}, TypedCatalog.{TypedCatalog}}
use Rattle.rm_machine.specs.{Effect.{Outcome, done, no_effect}, Tracked.{first_tracker, with_tracker}, Upkeep.{with_catalog}}
use Rattle.rm_machine.specs.declared.state.State.{State}

-- the catalog with this setting
abbrev pub with_setting : TypedCatalog → Bool → TypedCatalog
with_setting r on = with_base r (record r.ledger.base { tracking = on })

-- the database with this setting: where changes are tracked then, they are from `now` on
abbrev pub with_tracking : State → Bool → State
with_tracking s on =
    let r = with_setting s.catalog on in
    with_tracker (with_catalog s r) (first_tracker s.instance.is_open r.ledger)

-- it sets the setting alone, and tells it
abbrev pub IsTrackingOutcome : State → Bool → Outcome → Type 0
IsTrackingOutcome s on o = o ≡ done (line.Tracking on ∷ []) no_effect (with_tracking s on)
