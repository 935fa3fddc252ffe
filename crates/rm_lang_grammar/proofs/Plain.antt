-- Tokens that can be written, one after another.
use Rattle.std.{specs.List.{list_all}, proofs.{Common.{◌≡◌, refl, ◌∙◌, ◌++◌, ◌∷◌, [], List, true, ◌&&◌}, lemmas.Bool.{and_from}}}
use Rattle.std.proofs.lemmas.List.Folds.{list_all-append}
use Rattle.rm_lang_token.specs.{Spelling.{is_plain}, declared.token.Token.{Token}}

-- one more
pub plain_push : (ts : List Token) (t : Token) → list_all is_plain ts ≡ true → is_plain t ≡ true → list_all is_plain (ts ++ t ∷ []) ≡ true
plain_push ts t h p = list_all-append is_plain ts (t ∷ []) ∙ and_from (list_all is_plain ts) (is_plain t && true) h (rw p refl)

-- and more than one
pub plain_append : (ts us : List Token) → list_all is_plain ts ≡ true → list_all is_plain us ≡ true → list_all is_plain (ts ++ us) ≡ true
plain_append ts us h p = list_all-append is_plain ts us ∙ and_from (list_all is_plain ts) (list_all is_plain us) h p
