-- Which starts a switch keeps.
use Rattle.std.proofs.Common.{◌≡◌, ◌∙◌, ℕ, zero, suc, ◌+◌, ◌-◌, ◌≤◌, List, [], ◌∷◌, ◌++◌, length, drop, ap, refl, arith}
use Rattle.rm_track.specs.{Bitmaps.{Bitmap, Tracked, ending, newest, switched}, Told.{starts, starts_of}}

starts-push : (xs : List Bitmap) (x : Bitmap) (start : ℕ) → starts_of (xs ++ x ∷ []) start ≡ starts_of xs x.start ++ start ∷ []
starts-push [] x start = refl
starts-push (y ∷ ys) x start = ap (λ ks. y.start ∷ ks) (starts-push ys x start)

starts-drop : (k : ℕ) (xs : List Bitmap) (start : ℕ) → k ≤ length xs → starts_of (drop k xs) start ≡ drop k (starts_of xs start)
starts-drop zero xs start low = refl
starts-drop (suc k) [] start low = absurd (omega (arith, low))
starts-drop (suc k) (x ∷ xs) start low = starts-drop k xs start (omega (arith, low))

length-starts : (xs : List Bitmap) (start : ℕ) → length (starts_of xs start) ≡ length xs + 1
length-starts [] start = refl
length-starts (x ∷ xs) start = omega (arith, length-starts xs start)

-- the newest eight of those before and the checkpoint
pub starts-switched : (checkpoint : ℕ) (t : Tracked) → starts (switched checkpoint t) ≡ newest 8 (starts t ++ checkpoint ∷ [])
starts-switched checkpoint t =
    let xs = t.ended ++ ending checkpoint t ∷ [] in
    let all : starts_of xs checkpoint ≡ starts t ++ checkpoint ∷ [] = starts-push t.ended (ending checkpoint t) checkpoint in
    let past : length xs - 7 ≡ length (starts t ++ checkpoint ∷ []) - 8 = omega (arith, length-starts xs checkpoint, ap length all) in
    starts-drop (length xs - 7) xs checkpoint (omega arith) ∙ (λ i. drop (past i) (all i))
