-- The words of an edit.
use Rattle.std.proofs.Common.{◌≡◌, ◌≢◌, ℕ, ◌+◌, ◌-◌, List, [], ◌∷◌, ◌++◌, ap, sym, ◌∙◌, subst, arith, length, take, inl, inr, refl}
use Rattle.std.proofs.Math.Seq.{take-append_seam}
use Rattle.std.proofs.lemmas.List.{length-append}
use Rattle.std.proofs.lemmas.List.Elements.{All-append, All-from_get_or, All-get_or}
use Rattle.std.specs.Io.{StopsAt}
use Rattle.std.specs.List.{All}
use Rattle.std.specs.Prelude.{IsUtf8, MatchOption, Option, Some, None, is_some, zero, suc, true, false, Result, Ok, Err, IfOk, codes}
use Rattle.expander_session.specs.declared.commands.Command.TheVariants.{Edit, Expand}
use Rattle.replay_script.specs.LineReads.{IsLineReadAs, IsReadAs, IsReadAsEdit, IsReadAsPrelude, IsReadAsSource}
use Rattle.replay_script.specs.Scripts.{HasSourceHome, HasSourceNumber, IsSourceNumber, IsWrong, IsWrongBehind, IsWrongSource, IsWrongText}
use Rattle.replay_script.specs.Words.{HasNumber, IsNumber, Lacks, LacksNumber}
use Rattle.replay_script.specs.declared.line.Line.{Line}
use Rattle.replay_script.specs.declared.line.Line.TheVariants.{Command as Commanding, Source as Reading, Prelude as Picking}
use Rattle.replay_script.specs.declared.line.Wrong.{Wrong}
use Rattle.replay_script.specs.declared.line.Wrong.TheVariants as fault
use Rattle.replay_script.proofs.WordLemmas.{cut_same, number_lacks, same_number, space_no_digit, without_mark}

-- a text without a space does not begin with a number and a space
pub no_space : (text : List ℕ) → Lacks 32 text → LacksNumber text
no_space text lacks n rest has = without_mark 32 text has.0 rest lacks has.1

-- nor one whose first word is no number
pub no_number : (text word rest : List ℕ) → text ≡ word ++ 32 ∷ rest → Lacks 32 word → ((n : ℕ) → IsNumber word n → ⊥) → LacksNumber text
no_number text word rest is one none n other has =
    none n (subst (λ w. IsNumber w n) (sym (cut_same 32 word rest has.0 other (sym is ∙ has.1) one (number_lacks 32 space_no_digit has.0 n has.2)).0) has.2)

-- a text begins with one number, and one rest follows
pub one_number : (text : List ℕ) (m n : ℕ) (rest other : List ℕ) → HasNumber text m rest → HasNumber text n other → m ≡ n
one_number text m n rest other a b =
    same_number a.0 m n a.2 (subst (λ w. IsNumber w n) (sym (cut_same 32 a.0 rest b.0 other (sym a.1 ∙ b.1)
    (number_lacks 32 space_no_digit a.0 m a.2) (number_lacks 32 space_no_digit b.0 n b.2)).0) b.2)

pub one_rest : (text : List ℕ) (m n : ℕ) (rest other : List ℕ) → HasNumber text m rest → HasNumber text n other → rest ≡ other
one_rest text m n rest other a b =
    (cut_same 32 a.0 rest b.0 other (sym a.1 ∙ b.1) (number_lacks 32 space_no_digit a.0 m a.2) (number_lacks 32 space_no_digit b.0 n b.2)).1

-- a number that is no source's begins no source
pub no_source : (line : List ℕ) (n : ℕ) (rest : List ℕ) → HasNumber line n rest → (IsSourceNumber n → ⊥) → (other : List ℕ) → HasSourceNumber line other → ⊥
no_source line n rest has bad other source =
    bad (subst IsSourceNumber (sym (one_number line n source.number rest other has source.numbered)) source.is_number)

-- ---- what is behind the first word

-- what is wrong behind it is wrong with the line
wrong_there : (line : List ℕ) (wrong : Wrong) → IsWrongBehind line wrong → IsWrong line wrong
wrong_there line fault.LineFeed (inl h) = absurd h.2
wrong_there line fault.LineFeed (inr (inl h)) = absurd h.2.2
wrong_there line fault.LineFeed (inr (inr h)) = absurd h.2
wrong_there line fault.Utf8 (inl h) = absurd h.2
wrong_there line fault.Utf8 (inr (inl h)) = absurd h.2.2
wrong_there line fault.Utf8 (inr (inr h)) = absurd h.2
wrong_there line fault.CarriageReturn (inl h) = absurd h.2
wrong_there line fault.CarriageReturn (inr (inl h)) = absurd h.2.2
wrong_there line fault.CarriageReturn (inr (inr h)) = absurd h.2
wrong_there line fault.Command (inl h) = absurd h.2
wrong_there line fault.Command (inr (inl h)) = absurd h.2.2
wrong_there line fault.Command (inr (inr h)) = absurd h.2
wrong_there line fault.Start h = h
wrong_there line fault.End h = h
wrong_there line fault.Replacement h = h
wrong_there line fault.Number h = h
wrong_there line fault.Home h = h
wrong_there line fault.Text h = h
wrong_there line fault.TooLong h = h
wrong_there line fault.Pick h = h

edit_is : (line rest : List ℕ) (r : Result Line Wrong) → line ≡ codes "edit " ++ rest → IsReadAsEdit rest r → IsReadAs line r
edit_is line rest (Ok (Commanding (Edit m n r))) is says = (rest, is, says)
edit_is line rest (Ok (Commanding Expand)) is says = absurd says
edit_is line rest (Ok (Reading n h t)) is says = absurd says
edit_is line rest (Ok (Picking ps)) is says = absurd says
edit_is line rest (Err wrong) is h = wrong_there line wrong (inl (rest, is, h))

source_is : (line rest : List ℕ) (r : Result Line Wrong) → line ≡ codes "source " ++ rest → IsReadAsSource rest r → IsReadAs line r
source_is line rest (Ok (Commanding c)) is says = absurd says
source_is line rest (Ok (Reading n h t)) is says = (rest, is, says)
source_is line rest (Ok (Picking ps)) is says = absurd says
source_is line rest (Err wrong) is h = wrong_there line wrong (inr (inl (rest, is, h)))

prelude_is : (line rest : List ℕ) (r : Result Line Wrong) → line ≡ codes "prelude " ++ rest → IsReadAsPrelude rest r → IsReadAs line r
prelude_is line rest (Ok (Commanding c)) is says = absurd says
prelude_is line rest (Ok (Reading n h t)) is says = absurd says
prelude_is line rest (Ok (Picking ps)) is says = inr (rest, is, says)
prelude_is line rest (Err wrong) is h = wrong_there line wrong (inr (inr (rest, is, h)))

-- a line that begins with a word is read as what is behind it
pub edit_behind : {E : Type 0} (line rest : List ℕ) (r : Result (Result Line Wrong) E) → line ≡ codes "edit " ++ rest
    → IfOk r (IsReadAsEdit rest) → IfOk r (IsReadAs line)
edit_behind line rest (Err e) is read = tt
edit_behind line rest (Ok r) is read = edit_is line rest r is read

pub source_behind : {E : Type 0} (line rest : List ℕ) (r : Result (Result Line Wrong) E) → line ≡ codes "source " ++ rest
    → IfOk r (IsReadAsSource rest) → IfOk r (IsReadAs line)
source_behind line rest (Err e) is read = tt
source_behind line rest (Ok r) is read = source_is line rest r is read

pub prelude_behind : {E : Type 0} (line rest : List ℕ) (r : Result (Result Line Wrong) E) → line ≡ codes "prelude " ++ rest
    → IfOk r (IsReadAsPrelude rest) → IfOk r (IsReadAs line)
prelude_behind line rest (Err e) is read = tt
prelude_behind line rest (Ok r) is read = prelude_is line rest r is read

-- the text of a source is wrong, and so is its line
pub text_wrong : (line last : List ℕ) (wrong : Wrong) → HasSourceHome line last → IsWrongText last wrong → IsWrongSource line wrong
text_wrong line last fault.Text has h = (last, has, h)
text_wrong line last fault.TooLong has h = (last, has, h)
text_wrong line last fault.LineFeed has h = absurd h
text_wrong line last fault.Utf8 has h = absurd h
text_wrong line last fault.CarriageReturn has h = absurd h
text_wrong line last fault.Command has h = absurd h
text_wrong line last fault.Start has h = absurd h
text_wrong line last fault.End has h = absurd h
text_wrong line last fault.Replacement has h = absurd h
text_wrong line last fault.Number has h = absurd h
text_wrong line last fault.Home has h = absurd h
text_wrong line last fault.Pick has h = absurd h

-- bytes that stop at a line feed have none before their last
pub lacks_before : (bytes line : List ℕ) (last : ℕ) → StopsAt bytes 10 → bytes ≡ line ++ last ∷ [] → Lacks 10 line
lacks_before bytes line last stops is i inside = All-get_or (λ x. x ≢ 10) line i 0 inside (subst (All (λ x. x ≢ 10)) front stops)
  where
    size : length bytes ≡ length line + 1
    size = ap length is ∙ length-append line (last ∷ [])

    front : take (length bytes - 1) bytes ≡ line
    front = ap (λ n. take n bytes) (omega (arith, size)) ∙ ap (take (length line)) is ∙ take-append_seam line (last ∷ [])

-- and none at all if that is another byte
pub lacks_all : (bytes line : List ℕ) (last : ℕ) → StopsAt bytes 10 → bytes ≡ line ++ last ∷ [] → last ≢ 10 → Lacks 10 bytes
lacks_all bytes line last stops is other =
    subst (Lacks 10) (sym is) (λ i inside. All-get_or (λ x. x ≢ 10) (line ++ last ∷ []) i 0 inside
    (All-append (λ x. x ≢ 10) line (last ∷ []) (All-from_get_or (λ x. x ≢ 10) line 0 (lacks_before bytes line last stops is)) one))
  where
    one : All (λ x. x ≢ 10) (last ∷ [])
    one zero d l = other
    one (suc k) d l = absurd (omega (arith, l))

-- a line that is read as a command or as wrong, with its line feed
pub read_whole : {E : Type 0} (bytes line : List ℕ) (r : Result (Result Line Wrong) E) → bytes ≡ line ++ 10 ∷ [] → Lacks 10 line → IsUtf8 line → Lacks 13 line
    → IfOk r (IsReadAs line) → IfOk r (IsLineReadAs bytes)
read_whole bytes line (Err e) is one utf8 plain read = tt
read_whole bytes line (Ok (Ok command)) is one utf8 plain read = (line, record { is = is; one = one; utf8 = utf8; plain = plain }, read)
read_whole bytes line (Ok (Err wrong)) is one utf8 plain read = inr (line, is, one, read)

-- a list of no length is empty
pub is_empty : (xs : List ℕ) → length xs ≡ 0 → xs ≡ []
is_empty [] e = refl
is_empty (x ∷ xs) e = absurd (omega (arith, e))

-- a text with a mark does not lack it
pub has_mark : {A : Type 0} (mark : ℕ) (text : List ℕ) (parts : Option A) (front back : A → List ℕ)
    → MatchOption parts (Lacks mark text) (λ p. (text ≡ front p ++ mark ∷ back p) × Lacks mark (front p)) → is_some parts ≡ true → Lacks mark text → ⊥
has_mark mark text None front back cut some lacks = absurd (cc some)
has_mark mark text (Some p) front back cut some lacks = without_mark mark text (front p) (back p) lacks cut.0

-- a text without one lacks it
pub lacks_mark : {A : Type 0} (mark : ℕ) (text : List ℕ) (parts : Option A) (front back : A → List ℕ)
    → MatchOption parts (Lacks mark text) (λ p. (text ≡ front p ++ mark ∷ back p) × Lacks mark (front p)) → is_some parts ≡ false → Lacks mark text
lacks_mark mark text None front back cut none = cut
lacks_mark mark text (Some p) front back cut none = absurd (cc none)
