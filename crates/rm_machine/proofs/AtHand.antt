-- The log of a thread that is at hand is an online one.
use Rattle.std.proofs.Common.{◌≡◌, ◌<◌, ◌≤◌, ◌+◌, inl, inr, ℕ, zero, suc, [], ◌∷◌, Bool, true, false, cond, refl, arith, Contains}
use Rattle.std.proofs.lemmas.List.Elements.{Contains-append_cases}
use Rattle.rm_base.proofs.Members.{none-in, first-or-rest}
use Rattle.rm_redo.specs.{Online.{has_log}, declared.log_file.LogFile.{LogFile}}
use Rattle.rm_machine.specs.{Recovery.{online_logs}, State.{online, is_lost, is_online}, declared.state.State.{State}}
use Rattle.rm_machine.proofs.Threads.{online-parts}

-- the log of a thread, which is there and not lost, among n threads from t on
pub record IsOnlineOf (s : State) (t n : ℕ) (a : LogFile) : Type 0 where
  pub thread : ℕ
  pub low : t ≤ thread
  pub high : thread < t + n
  pub there : has_log s.instance.logs thread ≡ true
  pub found : is_lost s.instance.logs thread ≡ false
  pub is : online s thread ≡ a

by-online : (b : Bool) (x a : LogFile) → Contains (cond b (x ∷ []) []) a → (b ≡ true) × (x ≡ a)
by-online false x a has = absurd (none-in a has)
by-online true x a has = elim (first-or-rest x [] a has) [
  | inl same ↦ (refl, same)
  | inr rest ↦ absurd (none-in a rest)
]

pub online-in : (s : State) (t n : ℕ) (a : LogFile) → Contains (online_logs s t n) a → IsOnlineOf s t n a
online-in s t zero a has = absurd (none-in a has)
online-in s t (suc n) a has = elim (Contains-append_cases (cond (is_online s.instance.logs t) (online s t ∷ []) []) (online_logs s (t + 1) n) a has) [
  | inl here ↦
      let both = by-online (is_online s.instance.logs t) (online s t) a here in
      let parts = online-parts s.instance.logs t both.0 in
      record { thread = t; low = omega arith; high = omega arith; there = parts.0; found = parts.1; is = both.1 }
  | inr rest ↦
      let later = online-in s (t + 1) n a rest in
      record { thread = later.thread; low = omega (arith, later.low); high = omega (arith, later.high); there = later.there; found = later.found; is = later.is }
]
