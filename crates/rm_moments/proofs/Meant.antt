-- The moment that is computed is the one that the text means.
use Rattle.std.specs.{Char.{to_ascii_lowercase}, Str.{str_to_ascii_lowercase, Parse.{digits_value}}}
use Rattle.std.proofs.Common.{◌≡◌, ◌∙◌, refl, sym, ap, subst, inl, inr, ℕ, ◌+◌, ◌-◌, ◌*◌, ◌/◌, ◌%◌, ◌<◌, ◌≤◌, ◌≤ℤ◌, ◌*ℤ◌, ◌+ℤ◌, ℤ, pos, negsuc, unsigned_abs, List, ◌∷◌, ◌++◌, length, drop, true, false, codes, arith, length-drop, drop-drop}
use Rattle.std.proofs.lemmas.{Bool.{false_from_ne_true, cases_Bool}, Slice.Eq.{bytes_eq-Decides}}
use Rattle.jiff_core.specs.{Date.{epoch_day}, DateTime.{civil_seconds}, Time.{time_seconds}, declared.civil.datetime.DateTime.{DateTime}}
use Rattle.jiff_core.proofs.SignedLemmas.{signed_arith}
use Rattle.rm_base.specs.Numbers.{last_moment}
use Rattle.rm_moments.specs.{Meaning.{Ago, IsAgo, IsSysdate, MeansMoment, Now, Shown}, Text.{IsAt, shown, two}}
use Rattle.rm_moments.{specs.{Times.{is_sysdate, is_time_text}, Meant.{moment_meant, seconds_at}}, proofs.Dates.{at_within, since_1970}}
use Rattle.rm_moments.proofs.{Days.{ago-digits, length-sysdate}, Digits.{fields_of, fields_of-small}}
use Rattle.rm_moments.proofs.Known.{ago_test, fields_read, means_time, sysdate_test, time_means}

-- what passes the test of SYSDATE is it
test-sysdate : (word : List ℕ) → is_sysdate word ≡ true → IsSysdate word
test-sysdate word h = (bytes_eq-Decides (str_to_ascii_lowercase word) (str_to_ascii_lowercase (codes "sysdate"))).0 h

-- SYSDATE-n is longer than SYSDATE
ago-no_sysdate : (text : List ℕ) (n : ℕ) → IsAgo text n → is_sysdate text ≡ false
ago-no_sysdate text n h = false_from_ne_true (is_sysdate text) (λ e.
    absurd (omega (arith, length-sysdate text (test-sysdate text e), ap length (ago-digits text n h), length-drop 7 text)))

-- a date and time has a `-` in the place of a letter
no-letter : (y z : ℕ) (rest : List ℕ) → IsSysdate (two y ++ two z ++ 45 ∷ rest) → ⊥
no-letter y z rest h = let letter : to_ascii_lowercase 45 ≡ 97 = cc in omega (arith, letter)

no-sysdate : (y z : ℕ) (rest : List ℕ) → is_sysdate (two y ++ two z ++ 45 ∷ rest) ≡ false
no-sysdate y z rest = false_from_ne_true (is_sysdate (two y ++ two z ++ 45 ∷ rest)) (λ e. no-letter y z rest (test-sysdate (two y ++ two z ++ 45 ∷ rest) e))

-- its fields lie so many seconds behind 1970
since-abs : (z : ℤ) → pos 1970 ≤ℤ z → pos (unsigned_abs z / 100 * 100 + unsigned_abs z % 100) ≡ z
since-abs (pos n) h = ap pos (omega arith)
since-abs (negsuc n) h = absurd (omega (arith, signed_arith, h))

seconds-of : (day : ℤ) (time m : ℕ) → time < 86400 → day *ℤ pos 86400 +ℤ pos time ≡ pos m → unsigned_abs day * 86400 + time ≡ m
seconds-of (pos n) time m short e = omega (arith, signed_arith, e)
seconds-of (negsuc n) time m short e = absurd (omega (arith, signed_arith, e))

seconds-shown : (m : ℕ) (civil : DateTime) → IsAt m civil → let f = fields_of civil in seconds_at (f.century * 100 + f.year) f.month f.day f.hour f.minute f.second ≡ m
unfolding civil_seconds
seconds-shown m civil at =
    let year = since-abs civil.date.year (since_1970 m civil at) in
    rw year (omega (arith, seconds-of (epoch_day civil.date) (time_seconds civil.time) m (omega arith) at))

-- it is not SYSDATE
behind : DateTime → List ℕ
behind civil = two civil.date.day ++ 32 ∷ (two civil.time.hour ++ 58 ∷ (two civil.time.minute ++ 58 ∷ two civil.time.second))

shown-no_sysdate : (civil : DateTime) → is_sysdate (shown civil) ≡ false
unfolding behind
shown-no_sysdate civil = no-sysdate (unsigned_abs civil.date.year / 100) (unsigned_abs civil.date.year % 100) (two civil.date.month ++ 45 ∷ behind civil)

ago-number : (text : List ℕ) (n : ℕ) → IsAgo text n → digits_value 10 (drop 8 text) ≡ n
ago-number text n ago = ap (digits_value 10) (sym (drop-drop 1 7 text)) ∙ ap (λ ts. digits_value 10 (drop 1 ts)) (ago-digits text n ago) ∙ ago.number.value

-- what the text means is computed
pub meant-is : (text : List ℕ) (now m : ℕ) → MeansMoment text now m → m ≡ moment_meant text now
unfolding moment_meant
meant-is text now m (Now word e) = rw (means_time text now m (Now word e), sysdate_test text word) e
meant-is text now m (Ago n ago e) = rw (means_time text now m (Ago n ago e), ago-no_sysdate text n ago, ago_test text n ago, ago-number text n ago) e
meant-is text now m (Shown t) =
    rw (means_time text now m (Shown t), t.2, shown-no_sysdate t.0, fields_read (fields_of t.0) (fields_of-small t.0)) (sym (seconds-shown m t.0 t.1))

-- and what means nothing counts as 0
pub meant-none : (text : List ℕ) (now : ℕ) → ((m : ℕ) → ¬ (MeansMoment text now m)) → 0 ≡ moment_meant text now
unfolding moment_meant
meant-none text now none = rw (false_from_ne_true (is_time_text text) (λ e. let t = time_means text now e in none t.0 t.1)) refl

-- it is at most the last moment
means-within : (text : List ℕ) (now m : ℕ) → now ≤ last_moment → MeansMoment text now m → m ≤ last_moment
means-within text now m late (Shown t) = at_within m t.0 t.1
means-within text now m late (Now word e) = omega (arith, e, late)
means-within text now m late (Ago n ago e) = omega (arith, e, late)

pub meant-within : (text : List ℕ) (now : ℕ) → now ≤ last_moment → moment_meant text now ≤ last_moment
unfolding moment_meant
meant-within text now late = elim (cases_Bool (is_time_text text)) [
  | inl e ↦ let t = time_means text now e in subst (λ m. m ≤ last_moment) (meant-is text now t.0 t.1) (means-within text now t.0 late t.1)
  | inr e ↦ rw e (omega arith)
]
