-- What a run leaves that ended early, of how the calls below it did.
use Rattle.std.specs.Prelude.{IsErrAnd, IsErrOf}
use Rattle.std.proofs.Common.{◌≡◌, ◌≤◌, ◌∙◌, ℕ, Bool, List, Option, Result, Ok, Err, Contains, [], ◌∷◌, lit<, arith, refl, subst, sym}
use Rattle.rm_base.specs.{Outside.{Rose}, Store.{Held}}
use Rattle.rm_catalog.specs.declared.record.Record.{Record}
use Rattle.rm_tool.specs.Early.{EndsAtScript, EndsAtWords, Faults, Leaves, NoneFalls, RoseAtSink, RoseFor, of_halt, of_unopened, status_for, status_of}
use Rattle.rm_tool.specs.Run.{Watch}
use Rattle.rm_tool.specs.Session.{HasScript, NoneRan, before_statements, in_bad_record, in_bad_words, in_over_long}
use Rattle.rm_tool.specs.{Words.{drill_of}, declared.early.{Early.{Early}, Halt.{Halt}}}
use Rattle.rm_tool.specs.declared.early.Early.TheVariants as early
use Rattle.rm_tool.specs.declared.early.Halt.TheVariants as halt
use Rattle.rm_tool_opening.specs.{Opening.{RoseUnopened, WritesUnopened}, declared.opening.Unopened.{Unopened}}
use Rattle.rm_tool_opening.specs.declared.opening.Unopened.TheVariants as unopened

module _ (words : List (List ℕ)) (left rest : Option (List ℕ)) (clock : Watch) (before now : Option (List ℕ)) (held : Option Held) (kept : Option (List Record)) {later : Watch} {held' : Option Held} {kept' : Option (List Record)} where
  -- the words were not accepted
  pub at-words : (e : Early) → NoneRan clock later held kept held' kept' → EndsAtWords words before now e → Leaves words left rest clock later before now held kept held' kept' e
  at-words early.Words none written = (written.0, written.1, none)
  at-words early.Sink none written = in_bad_words written.0 none written.1
  at-words early.NoMemory none silent = before_statements silent none
  at-words early.Source none never = absurd never
  at-words early.TooLong none never = absurd never
  at-words early.BadRecord none never = absurd never
  at-words early.Store none never = absurd never
  at-words early.Keeper none never = absurd never

  -- no script was taken
  script-ends : (e : Early) → NoneRan clock later held kept held' kept' → EndsAtScript left before now e → Leaves words left rest clock later before now held kept held' kept' e
  script-ends early.Source none silent = (silent, none)
  script-ends early.TooLong none written = (written.0, written.1, none)
  script-ends early.Sink none written = in_over_long written.0 none written.1
  script-ends early.NoMemory none silent = before_statements silent none
  script-ends early.Words none never = absurd never
  script-ends early.BadRecord none never = absurd never
  script-ends early.Store none never = absurd never
  script-ends early.Keeper none never = absurd never

  pub at-script : (e : Early) {mid : Option (List ℕ)} → NoneRan clock later held kept held' kept' → mid ≡ before → EndsAtScript left mid now e → Leaves words left rest clock later before now held kept held' kept' e
  at-script e none silent ends = script-ends e none (coe 0 1 (i. EndsAtScript left (silent i) now e) ends)

  -- the site could not be opened
  opening-ends : (e : Unopened) → HasScript (drill_of words) left rest → NoneRan clock later held kept held' kept' → WritesUnopened kept before now e → Leaves words left rest clock later before now held kept held' kept' (of_unopened e)
  opening-ends unopened.BadRecord has none written = (has, written, none)
  opening-ends unopened.Sink has none front = in_bad_record none front
  opening-ends unopened.Store has none silent = (silent.0, before_statements silent.1 none)
  opening-ends unopened.Keeper has none silent = before_statements silent none
  opening-ends unopened.NoMemory has none silent = before_statements silent none

  pub at-opening : (e : Unopened) {mid : Option (List ℕ)} → HasScript (drill_of words) left rest → NoneRan clock later held kept held' kept' → mid ≡ before → WritesUnopened kept mid now e → Leaves words left rest clock later before now held kept held' kept' (of_unopened e)
  at-opening e has none silent ends = opening-ends e has none (coe 0 1 (i. WritesUnopened kept (silent i) now e) ends)

-- No count fell where the words were read, where the script was, and where the site was opened

pub words-falls : {source sink sink' store keeper : ℕ} → sink ≤ sink'
    → NoneFalls (record { source = source; sink = sink; store = store; keeper = keeper }) (record { source = source; sink = sink'; store = store; keeper = keeper })
words-falls falls = record { source = omega arith; sink = falls; store = omega arith; keeper = omega arith }

pub script-falls : {source source' sink sink' store keeper : ℕ} → (source ≤ source') × (sink ≤ sink')
    → NoneFalls (record { source = source; sink = sink; store = store; keeper = keeper }) (record { source = source'; sink = sink'; store = store; keeper = keeper })
script-falls falls = record { source = falls.0; sink = falls.1; store = omega arith; keeper = omega arith }

pub opened-falls : {source sink sink' store store' keeper keeper' : ℕ} → (sink ≤ sink') × (store ≤ store') × (keeper ≤ keeper')
    → NoneFalls (record { source = source; sink = sink; store = store; keeper = keeper }) (record { source = source; sink = sink'; store = store'; keeper = keeper' })
opened-falls falls = record { source = omega arith; sink = falls.0; store = falls.1; keeper = falls.2 }

-- counts that do not fall, from call to call
pub falls-then : (a b c : Faults) → NoneFalls a b → NoneFalls b c → NoneFalls a c
falls-then a b c one two = record {
  source = let x = one.source in let y = two.source in omega (arith, x, y);
  sink = let x = one.sink in let y = two.sink in omega (arith, x, y);
  store = let x = one.store in let y = two.store in omega (arith, x, y);
  keeper = let x = one.keeper in let y = two.keeper in omega (arith, x, y);
}

-- whose count rose behind counts that did not fall
pub rose-then : (a b c : Faults) (e : Early) → NoneFalls a b → RoseFor b c e → RoseFor a c e
rose-then a b c early.Source low rose = let x = low.source in omega (arith, x, rose)
rose-then a b c early.Sink low rose = let x = low.sink in omega (arith, x, rose)
rose-then a b c early.Store low rose = let x = low.store in omega (arith, x, rose)
rose-then a b c early.Keeper low rose = let x = low.keeper in omega (arith, x, rose)
rose-then a b c early.Words low rose = tt
rose-then a b c early.TooLong low rose = tt
rose-then a b c early.BadRecord low rose = tt
rose-then a b c early.NoMemory low rose = tt

-- and where the words were not accepted
pub rose-at-words : (words : List (List ℕ)) (before now : Option (List ℕ)) (a b : Faults) (e : Early) → EndsAtWords words before now e → RoseAtSink a.sink b.sink e → RoseFor a b e
rose-at-words words before now a b early.Sink written rose = rose
rose-at-words words before now a b early.Words written rose = tt
rose-at-words words before now a b early.NoMemory written rose = tt
rose-at-words words before now a b early.TooLong written rose = tt
rose-at-words words before now a b early.BadRecord written rose = tt
rose-at-words words before now a b early.Source never rose = absurd never
rose-at-words words before now a b early.Store never rose = absurd never
rose-at-words words before now a b early.Keeper never rose = absurd never

-- where the site could not be opened
pub rose-at-opening : (a b : Faults) (e : Unopened) → RoseUnopened a.sink b.sink a.store b.store a.keeper b.keeper e → RoseFor a b (of_unopened e)
rose-at-opening a b unopened.BadRecord rose = tt
rose-at-opening a b unopened.Sink rose = rose
rose-at-opening a b unopened.Store rose = rose
rose-at-opening a b unopened.Keeper rose = rose
rose-at-opening a b unopened.NoMemory rose = tt

-- and where the session ended early
pub rose-in-session : (a b : Faults) (e : Halt) {A : Type 0} {served : Result A Halt} → served ≡ Err e → (IsErrOf served halt.Sink → Rose a.sink b.sink) → (IsErrOf served halt.Store → Rose a.store b.store)
    → (IsErrOf served halt.Keeper → Rose a.keeper b.keeper) → RoseFor a b (of_halt e)
rose-in-session a b halt.Sink was sink store keeper = sink was
rose-in-session a b halt.Store was sink store keeper = store was
rose-in-session a b halt.Keeper was sink store keeper = keeper was
rose-in-session a b halt.NoMemory was sink store keeper = tt

-- words that are not accepted have one of three statuses
pub words-status : (words : List (List ℕ)) (before now : Option (List ℕ)) (e : Early) → EndsAtWords words before now e → Contains (2 ∷ 4 ∷ 7 ∷ []) (status_for e)
words-status words before now early.Words written = (0, lit< tt, refl)
words-status words before now early.Sink written = (1, lit< tt, refl)
words-status words before now early.NoMemory written = (2, lit< tt, refl)
words-status words before now early.Source never = absurd never
words-status words before now early.TooLong never = absurd never
words-status words before now early.BadRecord never = absurd never
words-status words before now early.Store never = absurd never
words-status words before now early.Keeper never = absurd never

-- the status of a call that ended so
pub status-err : (ns : List ℕ) (r : Result Bool Early) (e : Early) → IsErrAnd r (λ x. x ≡ e) → Contains ns (status_for e) → Contains ns (status_of r)
status-err ns (Ok refused) e is has = absurd is
status-err ns (Err x) e is has = subst (λ (y : Early). Contains ns (status_for y)) (sym is) has

-- and how it ended
pub err-is : (r : Result Bool Early) (e f : Early) → IsErrAnd r (λ x. x ≡ e) → r ≡ Err f → e ≡ f
err-is (Ok refused) e f is how = absurd is
err-is (Err x) e f is how = let same : x ≡ f = cc in sym is ∙ same

-- a script that is too long is not found before the source, nor behind it
pub never-long-words : (words : List (List ℕ)) (before now : Option (List ℕ)) (e : Early) → EndsAtWords words before now e → ¬ (e ≡ early.TooLong)
never-long-words words before now e written is = subst (EndsAtWords words before now) is written

pub never-long-opening : (e : Unopened) → ¬ (of_unopened e ≡ early.TooLong)
never-long-opening unopened.BadRecord is = absurd (cc)
never-long-opening unopened.Sink is = absurd (cc)
never-long-opening unopened.Store is = absurd (cc)
never-long-opening unopened.Keeper is = absurd (cc)
never-long-opening unopened.NoMemory is = absurd (cc)

pub never-long-session : (e : Halt) → ¬ (of_halt e ≡ early.TooLong)
never-long-session halt.Sink is = absurd (cc)
never-long-session halt.Store is = absurd (cc)
never-long-session halt.Keeper is = absurd (cc)
never-long-session halt.NoMemory is = absurd (cc)
