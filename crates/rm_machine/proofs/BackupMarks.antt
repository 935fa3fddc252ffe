-- The mark before the writes keeps the database as it is.
use Rattle.std.proofs.Common.{◌≡◌, ◌≤◌, ◌+◌, ◌∙◌, ◌++◌, inl, nat_lt, ℕ, List, [], ◌∷◌, Bool, true, false, cond, is_none, refl, ap, sym, subst, arith, length, length-append}
use Rattle.std.proofs.lemmas.{Bool.{le-ltb}, List.{append-nil, Elements.{All-weaker}}}
use Rattle.rm_base.specs.{Store.{Held}, declared.block.{Change.{Change}, Mark.{Mark}}}
use Rattle.rm_catalog_typed.{specs.{LedgerFacts.{IsMark}, Ledger.{ledger_records}, Facts.{IsTypedCatalog}}, proofs.Fitted.{many, mark_fits}}
use Rattle.rm_lang_statement.specs.declared.command.BackupForm.{BackupForm}
use Rattle.rm_machine.specs.{Effect.{Made}, Machine.{IsBorneOut}, Marks.{last_marked, mark_now, marks_before, with_marks}, Sound.{IsSound}}
use Rattle.rm_machine.specs.{State.{current_of, ledger}, BackupOutcome.{marked}, BackupRefusal.{mark_count}, declared.state.State.{State}}
use Rattle.rm_machine.proofs.Later.{borne-same, sound-with}

abbrev pub with_mark : State → State
with_mark s = record s { catalog = with_marks s.catalog (marks_before s) }

pub marks-fit : (s : State) → IsSound s → (t : Bool) → length (ledger_records (ledger s)) + length (cond t (mark_now s ∷ []) []) ≤ 65536 → IsTypedCatalog (with_marks s.catalog (cond t (mark_now s ∷ []) []))
marks-fit s sound true room =
    let there = sound.catalog.ledger.current in
    let range = sound.catalog.ledger.incarnations.ranges (current_of s) there in
    mark_fits s.catalog (mark_now s) sound.catalog (record {
      mark = record { there = there; scn = (range.1, omega arith); moment = omega arith };
      moment = (All-weaker (IsMark s.catalog.ledger.tree s.catalog.ledger.base.moment) (λ m. m.moment ≤ s.catalog.ledger.base.moment) (λ m is. is.moment) s.catalog.ledger.marks sound.catalog.ledger.marks.each, omega arith);
      room = room;
    })
marks-fit s sound false room = subst (λ (ms : List Mark). IsTypedCatalog (record s.catalog { ledger = record s.catalog.ledger { marks = ms } })) (sym (append-nil s.catalog.ledger.marks)) sound.catalog

sound-mark : (s : State) → IsSound s → length (ledger_records (ledger s)) + length (marks_before s) ≤ 65536 → IsSound (with_mark s)
sound-mark s sound room = sound-with s (with_mark s).catalog (marks-fit s sound (nat_lt (last_marked 0 (ledger s).marks) (ledger s).base.moment) room) sound

borne-mark : (s : State) (h : List Change) (objects : Held) (made : List Made) (touched : List (List ℕ)) → length (ledger_records (ledger s)) + length (marks_before s) ≤ 65536 → IsBorneOut s h objects made touched → IsBorneOut (with_mark s) h objects made touched
borne-mark s h objects made touched room stands =
    borne-same s (with_mark s).catalog (sound-mark s stands.state room).catalog h objects made touched stands (λ e has. inl has) (λ p has. inl has) (λ e has. inl has)

-- no mark is to be made after it: it is of the moment of the statement
last-push : (d : ℕ) (ms : List Mark) (m : Mark) → last_marked d (ms ++ m ∷ []) ≡ m.moment
last-push d [] m = refl
last-push d (x ∷ ms) m = last-push x.moment ms m

pub unmarked-mark : (s : State) → marks_before (with_mark s) ≡ []
unmarked-mark s = by (nat_lt (last_marked 0 (ledger s).marks) (ledger s).base.moment) refl
  where
    by : (t : Bool) → nat_lt (last_marked 0 (ledger s).marks) (ledger s).base.moment ≡ t → cond (nat_lt (last_marked 0 ((ledger s).marks ++ cond t (mark_now s ∷ []) [])) (ledger s).base.moment) (mark_now (with_mark s) ∷ []) [] ≡ []
    by true is = ap (λ n. cond (nat_lt n (ledger s).base.moment) (mark_now (with_mark s) ∷ []) []) (last-push 0 (ledger s).marks (mark_now s)) ∙ ap (λ t. cond t (mark_now (with_mark s) ∷ []) []) (le-ltb (ledger s).base.moment (ledger s).base.moment (omega arith))
    by false is = ap (λ ms. cond (nat_lt (last_marked 0 ms) (ledger s).base.moment) (mark_now (with_mark s) ∷ []) []) (append-nil (ledger s).marks) ∙ ap (λ t. cond t (mark_now (with_mark s) ∷ []) []) is

-- Where the statement has a DURING or not

module _ (s : State) (b : BackupForm) (room : length (ledger_records (ledger s)) + mark_count s b ≤ 65536) where
  pub sound-marked : IsSound s → IsSound (marked s b)
  sound-marked sound = by (is_none b.during) room
    where
      by : (t : Bool) → length (ledger_records (ledger s)) + cond t 0 (length (marks_before s)) ≤ 65536 → IsSound (cond t s (with_mark s))
      by true few = sound
      by false few = sound-mark s sound few

  pub borne-marked : (h : List Change) (objects : Held) (made : List Made) (touched : List (List ℕ)) → IsBorneOut s h objects made touched → IsBorneOut (marked s b) h objects made touched
  borne-marked h objects made touched stands = by (is_none b.during) room
    where
      by : (t : Bool) → length (ledger_records (ledger s)) + cond t 0 (length (marks_before s)) ≤ 65536 → IsBorneOut (cond t s (with_mark s)) h objects made touched
      by true few = stands
      by false few = borne-mark s h objects made touched few stands

-- so many records more
pub count-marked : (s : State) (b : BackupForm) → length (ledger_records (ledger (marked s b))) ≡ length (ledger_records (ledger s)) + mark_count s b
count-marked s b = by (is_none b.during)
  where
    by : (t : Bool) → length (ledger_records (ledger (cond t s (with_mark s)))) ≡ length (ledger_records (ledger s)) + cond t 0 (length (marks_before s))
    by true = omega arith
    by false =
        omega (arith, many (ledger s), many (ledger (with_mark s)), length-append (ledger s).marks (marks_before s))

-- what is not of the marks stays
pub marked-same : {X : Type 0} (f : State → X) (s : State) (b : BackupForm) → f (with_mark s) ≡ f s → f (marked s b) ≡ f s
marked-same f s b same = by (is_none b.during)
  where
    by : (t : Bool) → f (cond t s (with_mark s)) ≡ f s
    by true = refl
    by false = same
