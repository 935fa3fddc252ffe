-- A statement that is refused or only tells leaves all as it was.
use Rattle.std.specs.Prelude.{OnErr}
use Rattle.std.proofs.{Common.{◌≡◌, ◌∙◌, ◌&&◌, ◌||◌, not, Bool, true, false, List, Option, Result, ap, refl, sym, subst}, Math.Bool.{or-false}}
use Rattle.rm_base.specs.Store.{Held}
use Rattle.rm_catalog.specs.declared.record.Record.{Record}
use Rattle.rm_lang_statement.specs.declared.command.Command.{Command}
use Rattle.rm_machine.specs.{Comes.{DoesMore}, Laws.{only_tells}}
use Rattle.rm_machine.specs.declared.{answer.Answer.{Answer, TheVariants.{Done}}, handed.Handed.{Handed}, state.State.{State}}
use Rattle.rm_machine_laws.{specs.{Holds.{View}, Saves.{applies}}, proofs.Answering.{on-err}}
use Rattle.rm_report.specs.{Reply.{said}, declared.line.{Line.{Line}, Reply.{Reply}}}
use Rattle.rm_site.specs.Untouched.{AreSame, IsUntouched, is_quiet}

-- nothing was done, whatever the statement
pub still_same : {T E : Type 0} (r : Result T E) (P : Type 0) (held held' : Option Held) (kept : Option (List Record)) → held' ≡ held → OnErr r (P → AreSame held kept held' kept)
still_same r P held held' kept same = on-err (P → AreSame held kept held' kept) r (λ p. (same, refl))

-- a reply that is no refusal, to a statement that does more than tell, is not quiet
pub not-quiet : (c : Command) (reply : Reply) (lines : List Line) → only_tells c ≡ false → reply ≡ said lines → is_quiet c reply ≡ true → ⊥
not-quiet c reply lines more said_is quiet =
    let both : true ≡ false = sym quiet ∙ ap (λ (r : Reply). r.refused || only_tells c) said_is ∙ more in
    absurd (cc)

-- so is one to what is done
pub done-not-quiet : (c : Command) (a : Answer) (x : Handed) (reply : Reply) (lines : List Line) → a ≡ Done x → DoesMore c a → reply ≡ said lines → is_quiet c reply ≡ true → ⊥
done-not-quiet c a x reply lines is does said_is = not-quiet c reply lines (subst (λ (y : Answer). DoesMore c y) is does) said_is

neither : (a r t : Bool) → (r || t) ≡ true → (a || (not r && not t)) ≡ a
neither a true t is = or-false a
neither a false true is = or-false a
neither a false false is = absurd (cc)

-- where the database is as it was, the site shows what it showed
pub untouched-of : (o : Option State) (v : View) (c : Command) (reply : Reply) (p : Option State) (applied : Bool) {held held' : Option Held} {kept kept' : Option (List Record)}
    → o ≡ v.state → v.live ≡ true → applied ≡ (v.applied || applies c reply) → is_quiet c reply ≡ true
    → IsUntouched held kept o held' kept' p → IsUntouched held kept v held' kept' (record { state = p; live = true; applied = applied })
untouched-of o v c reply p applied from live is quiet same =
    let state : p ≡ v.state = same.1 ∙ from in
    let knows : applied ≡ v.applied = is ∙ neither v.applied reply.refused (only_tells c) quiet in
    let shows : record { state = p; live = true; applied = applied } ≡ v = λ i. record { state = state i; live = sym live i; applied = knows i } in
    (same.0, shows)

-- what is done does not only tell
pub done-more : (c : Command) (a : Answer) (x : Handed) → a ≡ Done x → DoesMore c a → only_tells c ≡ true → ⊥
done-more c a x is does only =
    let both : true ≡ false = sym only ∙ subst (λ (y : Answer). DoesMore c y) is does in
    absurd (cc)
