-- What words that stand first, or do not, tell of reading on.
use Rattle.std.{specs.Borrow.{Bor}, proofs.Common.{◌≡◌, refl, ap, sym, inl, inr, ℕ, List, [], ◌∷◌, Option, None}}
use Rattle.rm_lang_token.specs.declared.token.Token.{Token}
use Rattle.rm_lang_grammar.specs.Reading.{rest_of}
use Rattle.rm_lang_reading.specs.Phrases.{after_words, Stand, Fail}

pub stand_reads : {A : Type 0} (ns : List (Bor (List ℕ))) (f : List Token → Option A) (ts us : List Token) → Stand ns ts us → after_words ns f ts ≡ f us
stand_reads [] f ts us h = ap f (sym h)
stand_reads (n ∷ ns) f ts us h = rw h.0 (stand_reads ns f (rest_of ts) us h.1)

pub fail_reads : {A : Type 0} (ns : List (Bor (List ℕ))) (f : List Token → Option A) (ts : List Token) → Fail ns ts → after_words ns f ts ≡ None
fail_reads [] f ts h = absurd h
fail_reads (n ∷ ns) f ts (inl none) = rw none refl
fail_reads (n ∷ ns) f ts (inr h) = rw h.0 (fail_reads ns f (rest_of ts) h.1)

pub ruleset worded = (stand_reads, fail_reads)
