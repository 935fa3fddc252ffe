-- What is in place, one after the other.
use Rattle.std.proofs.Common.{◌≡◌, ◌+◌, ◌∙◌, ◌++◌, ℕ, zero, suc, List, [], ◌∷◌, cond, ap, sym, arith}
use Rattle.std.proofs.lemmas.List.{append-nil, append_assoc}
use Rattle.rm_redo.specs.declared.log_file.LogFile.{LogFile}
use Rattle.rm_machine.specs.{Recovery.{online_logs}, State.{is_online, online}, declared.state.State.{State}}

-- the online log of one thread more
abbrev pub online_of : State → ℕ → List LogFile
online_of s t = cond (is_online s.instance.logs t) (online s t ∷ []) []

pub online-more : (s : State) (t n : ℕ) → online_logs s t (n + 1) ≡ online_logs s t n ++ online_of s (t + n)
online-more s t zero = append-nil (online_of s t) ∙ ap (online_of s) (let same : t ≡ t + 0 = omega arith in same)
online-more s t (suc n) =
    let more : suc n + 1 ≡ suc (n + 1) = omega arith in
    let next : t + 1 + n ≡ t + suc n = omega arith in
    ap (online_logs s t) more
    ∙ ap (λ xs. online_of s t ++ xs) (online-more s (t + 1) n)
    ∙ sym (append_assoc (online_of s t) (online_logs s (t + 1) n) (online_of s (t + 1 + n)))
    ∙ ap (λ m. online_of s t ++ online_logs s (t + 1) n ++ online_of s m) next
