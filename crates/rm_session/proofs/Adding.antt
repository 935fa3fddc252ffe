-- Parts that are added one after another.
use Rattle.std.specs.Option.{option_map_or}
use Rattle.std.proofs.Common.{◌≡◌, ◌<◌, ◌≤◌, ◌+◌, ◌-◌, ◌∙◌, ◌++◌, ◌&&◌, not, ℕ, suc, List, [], ◌∷◌, Option, Bool, true, false, cond, refl, ap, sym, arith, append-nil, append_assoc, drop, drop-cons, get_or, length, slice_get}
use Rattle.std.proofs.lemmas.{List.{drop_all}, Option.{slice_get-get_or}}
use Rattle.rm_catalog.specs.declared.record.PartEntry.{PartEntry}
use Rattle.rm_commit.specs.declared.commit.Object.{Object}
use Rattle.rm_machine.specs.{Saving.{SitePart, entry_of, log_parts, object_of, with_ids}, declared.state.State.{State}}
use Rattle.rm_redo.specs.{Online.{lost_log}, declared.online.ThreadLog.{ThreadLog}}
use Rattle.rm_session.specs.{Adding.{no_parts, part_of_thread, with_part, with_parts}, declared.site_parts.Parts.{Parts}}

-- Many parts at once

pub parts-then : (ps qs : List SitePart) (x : Parts) → with_parts (ps ++ qs) x ≡ with_parts qs (with_parts ps x)
parts-then [] qs x = refl
parts-then (p ∷ ps) qs x = parts-then ps qs (with_part p x)

pub parts-next : (ps : List SitePart) (x : Parts) → (with_parts ps x).next ≡ x.next + length ps
parts-next [] x = omega arith
parts-next (p ∷ ps) x = let rest = parts-next ps (with_part p x) in omega (arith, rest)

pub parts-entries : (ps : List SitePart) (x : Parts) → (with_parts ps x).entries ≡ x.entries ++ with_ids entry_of x.next ps
parts-entries [] x = sym (append-nil x.entries)
parts-entries (p ∷ ps) x = parts-entries ps (with_part p x) ∙ append_assoc x.entries (entry_of x.next p ∷ []) (with_ids entry_of (x.next + 1) ps)

pub parts-objects : (ps : List SitePart) (x : Parts) → (with_parts ps x).objects ≡ x.objects ++ with_ids object_of x.next ps
parts-objects [] x = sym (append-nil x.objects)
parts-objects (p ∷ ps) x = parts-objects ps (with_part p x) ∙ append_assoc x.objects (object_of x.next p ∷ []) (with_ids object_of (x.next + 1) ps)

pub parts-none : (n next : ℕ) (es : List PartEntry) (os : List Object) → n ≡ next → es ≡ [] → os ≡ [] → record { next = n; entries = es; objects = os } ≡ no_parts next
parts-none n next es os same entries objects =
    λ i. record { next = same i; entries = entries i; objects = objects i }

-- One thread on

logs-by : (s : State) (t : ℕ) (b : Bool) (rest : List ThreadLog) (x : Parts) → with_parts (cond b (part_of_thread s t ∷ []) [] ++ log_parts s (t + 1) rest) x ≡ with_parts (log_parts s (t + 1) rest) (cond b (with_part (part_of_thread s t) x) x)
logs-by s t true rest x = refl
logs-by s t false rest x = refl

-- a log that is there and not lost stands at a place
abbrev pub online-at : Option ThreadLog → Bool
online-at o = option_map_or (λ l. l.is_there) o false && not (option_map_or (λ l. l.is_lost) o false)

pub logs-next : (s : State) (t : ℕ) (ls : List ThreadLog) (x y : Parts) → 0 < t → t ≤ length ls → y ≡ cond (online-at (slice_get ls (t - 1))) (with_part (part_of_thread s t) x) x
    → with_parts (log_parts s t (drop (t - 1) ls)) x ≡ with_parts (log_parts s (t + 1) (drop (t + 1 - 1) ls)) y
logs-next s t ls x y low high is =
    let inside : t - 1 < length ls = omega (arith, low, high) in
    let next : suc (t - 1) ≡ t + 1 - 1 = omega (arith, low) in
    let l : ThreadLog = get_or ls (t - 1) lost_log in
    let same = is ∙ ap (λ o. cond (online-at o) (with_part (part_of_thread s t) x) x) (slice_get-get_or ls (t - 1) lost_log inside) in
    ap (λ (xs : List ThreadLog). with_parts (log_parts s t xs) x) (drop-cons ls (t - 1) lost_log inside)
    ∙ logs-by s t (l.is_there && not l.is_lost) (drop (suc (t - 1)) ls) x ∙ (λ i. with_parts (log_parts s (t + 1) (drop (next i) ls)) (sym same i))

-- none is left
pub logs-last : (s : State) (t : ℕ) (ls : List ThreadLog) (y : Parts) → length ls < t → with_parts (log_parts s t (drop (t - 1) ls)) y ≡ y
logs-last s t ls y last = ap (λ (xs : List ThreadLog). with_parts (log_parts s t xs) y) (drop_all (t - 1) ls (omega (arith, last)))
