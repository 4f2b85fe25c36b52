-- A text that is read is read as the same with one LF behind it.
use Rattle.std.proofs.Common.{◌≡◌, ℕ, Bool, true, false, cond, ◌&&◌, List, [], ◌∷◌, ◌++◌, refl, sym, ap, ap₂, ◌∙◌, append_assoc, append-nil}
use Rattle.json.specs.Token.{Token, begin_object, end_object, begin_array, end_array, key, string, number, boolean, null, bad}
use Rattle.json.specs.Word.{ends_word, word}
use Rattle.json.specs.Lex.{Lexeme, token, comma, colon, string_token, lex, between, fresh, punctuate, tokens}
use Rattle.json.specs.Print.{escape, quoted, token_text, begins, ends, print_from, print, IsPrintable, ArePrintable}
use Rattle.json.proofs.Printed.Strings.{content-escape, lex-escape}
use Rattle.json.proofs.Printed.Numbers.{lex-number, in_word-ended}
use Rattle.json.proofs.Printed.Tokens.{tokens-print}

-- ---- the lexemes that are printed

abbrev token_lexemes : Token → List Lexeme
token_lexemes begin_object = token begin_object ∷ []
token_lexemes end_object = token end_object ∷ []
token_lexemes begin_array = token begin_array ∷ []
token_lexemes end_array = token end_array ∷ []
token_lexemes (key s) = token (string s) ∷ colon ∷ []
token_lexemes (string s) = token (string s) ∷ []
token_lexemes (number s) = token (number s) ∷ []
token_lexemes (boolean b) = token (boolean b) ∷ []
token_lexemes null = token null ∷ []
token_lexemes bad = []

abbrev lexemes : Bool → List Token → List Lexeme
lexemes later [] = []
lexemes later (t ∷ ts) = cond (later && begins t) (comma ∷ []) [] ++ (token_lexemes t ++ lexemes (ends t) ts)

-- a value's end is followed by a comma, a closing bracket, or what comes behind the text
value_ends : (ts : List Token) (behind : List ℕ) → ends_word behind ≡ true → ends_word (print_from true ts ++ behind) ≡ true
unfolding print_from
value_ends [] behind is = is
value_ends (begin_object ∷ ts) behind is = refl
value_ends (end_object ∷ ts) behind is = refl
value_ends (begin_array ∷ ts) behind is = refl
value_ends (end_array ∷ ts) behind is = refl
value_ends (key s ∷ ts) behind is = refl
value_ends (string s ∷ ts) behind is = refl
value_ends (number s ∷ ts) behind is = refl
value_ends (boolean b ∷ ts) behind is = refl
value_ends (null ∷ ts) behind is = refl
value_ends (bad ∷ ts) behind is = refl

quoted_lexed : (s rest : List ℕ) → lex between (quoted s ++ rest) ≡ token (string s) ∷ lex between rest
unfolding lex
quoted_lexed s rest =
    ap (λ l. lex between (34 ∷ l)) (append_assoc (escape s) (34 ∷ []) rest) ∙ ap₂ (λ o l. token (string_token o) ∷ l) (content-escape s rest) (lex-escape s rest)

token_lexed : (t : Token) (rest : List ℕ) → IsPrintable t → (ends t ≡ true → ends_word rest ≡ true) → lex between (token_text t ++ rest) ≡ token_lexemes t ++ lex between rest
unfolding lex word
token_lexed begin_object rest is ended = refl
token_lexed end_object rest is ended = refl
token_lexed begin_array rest is ended = refl
token_lexed end_array rest is ended = refl
token_lexed (key s) rest is ended = ap (lex between) (append_assoc (quoted s) (58 ∷ []) rest) ∙ quoted_lexed s (58 ∷ rest)
token_lexed (string s) rest is ended = quoted_lexed s rest
token_lexed (number s) rest is ended = lex-number s rest is (ended refl)
token_lexed (boolean true) rest is ended = ap₂ (λ b l. token (cond b (boolean true) bad) ∷ l) (ended refl) (in_word-ended rest (ended refl))
token_lexed (boolean false) rest is ended = ap₂ (λ b l. token (cond b (boolean false) bad) ∷ l) (ended refl) (in_word-ended rest (ended refl))
token_lexed null rest is ended = ap₂ (λ b l. token (cond b null bad) ∷ l) (ended refl) (in_word-ended rest (ended refl))
token_lexed bad rest is ended = absurd is

separated : (b : Bool) (rest : List ℕ) → lex between (cond b (44 ∷ []) [] ++ rest) ≡ cond b (comma ∷ []) [] ++ lex between rest
unfolding lex
separated true rest = refl
separated false rest = refl

regroup : (a b c d : List ℕ) → (a ++ (b ++ c)) ++ d ≡ a ++ (b ++ (c ++ d))
regroup a b c d = simp append_assoc

printed_lexed : (later : Bool) (ts : List Token) (behind : List ℕ) → ArePrintable ts → ends_word behind ≡ true → lex between behind ≡ [] → lex between (print_from later ts ++ behind) ≡ lexemes later ts
unfolding print_from ArePrintable
printed_lexed later [] behind all ended none = none
printed_lexed later (t ∷ ts) behind all ended none =
    ap (lex between) (regroup (cond (later && begins t) (44 ∷ []) []) (token_text t) (print_from (ends t) ts) behind)
    ∙ separated (later && begins t) (token_text t ++ (print_from (ends t) ts ++ behind))
    ∙ ap (λ l. cond (later && begins t) (comma ∷ []) [] ++ l)
    (token_lexed t (print_from (ends t) ts ++ behind) all.0 (λ e. ap (λ b. ends_word (print_from b ts ++ behind)) e ∙ value_ends ts behind ended)
    ∙ ap (λ l. token_lexemes t ++ l) (printed_lexed (ends t) ts behind all.1 ended none))

-- ---- one LF

line_lexed : lex between (10 ∷ []) ≡ []
unfolding lex
line_lexed = refl

nothing_lexed : lex between [] ≡ []
unfolding lex
nothing_lexed = refl

pub tokens_line : (ts : List Token) → ArePrintable ts → tokens (print ts ++ 10 ∷ []) ≡ ts
tokens_line ts all =
    let with_line = printed_lexed false ts (10 ∷ []) all refl line_lexed in
    let without = printed_lexed false ts [] all refl nothing_lexed in
    ap (punctuate fresh) (with_line ∙ sym without ∙ ap (lex between) (append-nil (print ts))) ∙ tokens-print ts all
