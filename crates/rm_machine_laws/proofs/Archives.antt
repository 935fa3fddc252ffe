-- Archiving threads one after another.
use Rattle.std.proofs.Common.{◌≡◌, ◌<◌, ◌+◌, ◌++◌, ℕ, zero, suc, List, [], Bool, true, false, cond, refl, sym, subst, arith}
use Rattle.std.proofs.lemmas.List.{append-nil, append_assoc}
use Rattle.rm_base.specs.{Store.{Held}, declared.block.Change.{Change}}
use Rattle.rm_commit.specs.Names.{HasPuts}
use Rattle.rm_machine.specs.{Archive.{after_thread, after_threads, made_by, made_from, puts_by, puts_from}, Effect.{Made}}
use Rattle.rm_machine.specs.{Machine.{IsBorneOut}, State.{ledger, online}, SwitchLogfile.{archived, is_due, with_archived}}
use Rattle.rm_machine.{specs.declared.state.State.{State}, proofs.{Kept.{stand-same}, Later.{borne-beside}, Switching.{CanArchive}}}
use Rattle.rm_machine.proofs.Archives.{HasRoom, can-thread, next-room}
use Rattle.rm_machine_laws.proofs.{Switching.{switched-by}, NewObjects.{puts-rest, with_puts}}

-- What stands after it

thread-stand : (b : Bool) (s : State) (t : ℕ) (h : List Change) (objects : Held) (made : List Made) (touched : List (List ℕ)) → (b ≡ true → CanArchive s t) → IsBorneOut s h objects made touched
    → IsBorneOut (cond b (with_archived s t) s) h (with_puts (cond b (archived s.catalog.ledger.base.next_id (online s t)).puts []) objects) (made ++ cond b (archived s.catalog.ledger.base.next_id (online s t)).made []) touched
thread-stand true s t h objects made touched can stands = switched-by s t h objects made touched stands (can refl)
thread-stand false s t h objects made touched can stands =
    subst (λ k. IsBorneOut s h (with_puts [] objects) k touched) (sym (append-nil made))
    (borne-beside s h objects (with_puts [] objects) made touched touched stands (stand-same objects (with_puts [] objects) touched (ledger s) (ledger s) (λ n. refl)))

-- one thread is archived, if it is due
pub due-stand : (s : State) (t : ℕ) (h : List Change) (objects : Held) (made : List Made) (touched : List (List ℕ)) → (is_due s t ≡ true → CanArchive s t) → IsBorneOut s h objects made touched
    → IsBorneOut (after_thread s t) h (with_puts (puts_by s t) objects) (made ++ made_by s t) touched
due-stand s t = thread-stand (is_due s t) s t

pub threads-stand : (n t : ℕ) (s : State) (h : List Change) (objects : Held) (made : List Made) (touched : List (List ℕ)) (after : Held) (more : ℕ) → 0 < t → HasRoom s t n more → IsBorneOut s h objects made touched
    → HasPuts (puts_from s t n) objects after → IsBorneOut (after_threads s t n) h after (made ++ made_from s t n) touched
threads-stand zero t s h objects made touched after more low room stands puts =
    subst (λ k. IsBorneOut s h after k touched) (sym (append-nil made))
    (borne-beside s h objects after made touched touched stands (stand-same objects after touched (ledger s) (ledger s) puts))
threads-stand (suc n) t s h objects made touched after more low room stands puts =
    let q : State = after_thread s t in
    let mid : Held = with_puts (puts_by s t) objects in
    let one : IsBorneOut q h mid (made ++ made_by s t) touched = due-stand s t h objects made touched (λ due. can-thread s t n more low due room) stands in
    let rest = threads-stand n (t + 1) q h mid (made ++ made_by s t) touched after more (omega arith) (next-room s t n more room) one (puts-rest (puts_by s t) (puts_from q (t + 1) n) objects after puts) in
    subst (λ k. IsBorneOut (after_threads q (t + 1) n) h after k touched) (append_assoc made (made_by s t) (made_from q (t + 1) n)) rest
