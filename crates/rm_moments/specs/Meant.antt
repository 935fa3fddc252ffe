-- The moment that the text of an UNTIL TIME means.
use Rattle.std.specs.{Prelude.{ℕ, ◌+◌, ◌*◌, not, if◌then◌else◌, List, drop, pos, unsigned_abs}, Option.{option_map_or}}
use Rattle.std.specs.Str.Parse.{digits_value}
use Rattle.jiff_core.specs.Calendar.{days_from_civil}
use Rattle.rm_moments.specs.{Meaning.{days_before}, Times.{fields_at, is_ago, is_sysdate, is_time_text}}

-- the seconds from 1970-01-01 00:00:00 to a date and time of UTC
abbrev pub seconds_at : ℕ → ℕ → ℕ → ℕ → ℕ → ℕ → ℕ
seconds_at year month day hour minute second = unsigned_abs (days_from_civil (pos year) month day) * 86400 + hour * 3600 + minute * 60 + second

-- The moment that the text means, where it is now the moment `now`: that of a date and time, or now by SYSDATE, or some days
-- before by SYSDATE-n. A text that means none counts as 0.
unfoldable pub moment_meant : List ℕ → ℕ → ℕ
moment_meant text now =
    if not (is_time_text text) then 0
    else if is_sysdate text then now
    else if is_ago text then days_before now (digits_value 10 (drop 8 text))
    else option_map_or (λ f. seconds_at (f.century * 100 + f.year) f.month f.day f.hour f.minute f.second) (fields_at text) 0
