-- Where the current bitmap of datafile 1 starts, behind a call.
use Rattle.std.{specs.Option.{option_map}, proofs.Common.{◌≡◌, ◌≤◌, ◌∙◌, ℕ, List, Option, Some, None, IfSome, refl, ap, sym, subst, arith}}
use Rattle.rm_track.{specs.Bitmaps.{Tracked, mark_at, switch_at, switched, tracked_at, with_mark}, proofs.Places.{found-same}}

-- it is not tracked, or it starts at most there
abbrev pub StartsBy : List Tracked → ℕ → Type 0
StartsBy ts at = IfSome (tracked_at ts 1) (λ t. t.start ≤ at)

marked-by : (o : Option Tracked) (b at : ℕ) → IfSome o (λ t. t.start ≤ at) → IfSome (option_map (with_mark b) o) (λ t. t.start ≤ at)
marked-by None b at is = tt
marked-by (Some t) b at is = is

pub starts-marked : (old new : List Tracked) (b at : ℕ) → new ≡ mark_at old 1 b → StartsBy old at → StartsBy new at
starts-marked old new b at is starts =
    let found : tracked_at new 1 ≡ option_map (with_mark b) (tracked_at old 1) = ap (λ (ts : List Tracked). tracked_at ts 1) is ∙ found-same 1 (with_mark b) old (λ t. refl) in
    subst (λ (o : Option Tracked). IfSome o (λ t. t.start ≤ at)) (sym found) (marked-by (tracked_at old 1) b at starts)

later-by : (o : Option Tracked) (at to : ℕ) → at ≤ to → IfSome o (λ t. t.start ≤ at) → IfSome o (λ t. t.start ≤ to)
later-by None at to less is = tt
later-by (Some t) at to less is = omega (arith, less, is)

pub starts-later : (ts : List Tracked) (at to : ℕ) → at ≤ to → StartsBy ts at → StartsBy ts to
starts-later ts at to less is = later-by (tracked_at ts 1) at to less is

switched-by : (o : Option Tracked) (at to : ℕ) → at ≤ to → IfSome (option_map (switched at) o) (λ t. t.start ≤ to)
switched-by None at to less = tt
switched-by (Some t) at to less = less

pub starts-switched : (old new : List Tracked) (at to : ℕ) → new ≡ switch_at old 1 at → at ≤ to → StartsBy new to
starts-switched old new at to is less =
    let found : tracked_at new 1 ≡ option_map (switched at) (tracked_at old 1) = ap (λ (ts : List Tracked). tracked_at ts 1) is ∙ found-same 1 (switched at) old (λ t. refl) in
    subst (λ (o : Option Tracked). IfSome o (λ t. t.start ≤ to)) (sym found) (switched-by (tracked_at old 1) at to less)
