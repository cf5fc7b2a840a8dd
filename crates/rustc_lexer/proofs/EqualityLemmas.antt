-- Equality by `==` is that of values, and a clone is equal to its original.
use Rattle.std.proofs.Common.{rules, ◌≡◌, ◌↔◌, ◌∙◌, ℕ, Bool, true, false, refl, ap, List, [], ◌∷◌, drop, Option}
use Rattle.std.specs.Bool.{⊤}
use denote.Enum.Bare.{Bare}
use denote.Enum.Compared.{Each, by}
use denote.Enum.Declared.{Choice, values_one}
use denote.Struct.Field.{Field}
use denote.Struct.Values.{Values}
use mathlib.Core.Logic.{inl, inr}
use Rattle.std.proofs.lemmas.Bool.{false≢true, eqb-true}
use Rattle.std.specs.Cmp.{first_so, second_so}
use Rattle.std.specs.Cmp.Derive.{points}
use Rattle.rustc_lexer.specs.contracts.relex.KeptPartialEq.TheImpl as of_kept
use Rattle.rustc_lexer.specs.contracts.token.GuardedStrPartialEq.TheImpl as of_guarded
use Rattle.rustc_lexer.specs.contracts.token.LiteralKindPartialEq.TheImpl as of_literal
use Rattle.rustc_lexer.specs.contracts.token.TokenKindPartialEq.TheImpl as of_kind
use Rattle.rustc_lexer.specs.contracts.token.TokenPartialEq.TheImpl as of_token
use Rattle.rustc_lexer.specs.contracts.token.LiteralKindEq.TheImpl.Laws as literal_laws
use Rattle.rustc_lexer.specs.contracts.token.BasePartialEq.TheImpl as of_base
use Rattle.rustc_lexer.specs.contracts.token.LiteralKind as the_literal
use Rattle.rustc_lexer.specs.declared.token.Base.{Base}
use Rattle.rustc_lexer.specs.declared.token.LiteralKind.{LiteralKind}
use Rattle.rustc_lexer.specs.declared.token.LiteralKind.TheVariants as literal
use Rattle.rustc_lexer.specs.declared.token.TokenKind.{TokenKind}
use Rattle.rustc_lexer.specs.declared.token.TokenKind.TheVariants as kind
use Rattle.rustc_lexer.specs.declared.token.DocStyle.{DocStyle}
use Rattle.rustc_lexer.specs.contracts.token.TokenKind as the_kind
use Rattle.rustc_lexer.specs.contracts.token.TokenEq.TheImpl.Laws as token_laws
use Rattle.rustc_lexer.specs.contracts.token.TokenKindEq.TheImpl.Laws as kind_laws
use Rattle.rustc_lexer.specs.declared.token.Token.{Token}

-- a test that is true exactly of a value and itself
abbrev pub IsEquality : {A : Type 0} → (A → A → Bool) → Type 0
IsEquality {A} E = (a b : A) → (E a b ≡ true) ↔ (a ≡ b)

pub kept : IsEquality of_kept.ghosts.eq
kept a b = search rules

pub guarded : IsEquality of_guarded.ghosts.eq
guarded a b = search rules

-- ---- an enum: where each variant's test is true of the same fields alone, the whole test is

abbrev Sames : (Fss : List (List Field)) → Each Bool Fss → Type 0
Sames [] es = ⊤
Sames (Fs ∷ Fss) es = ((x y : Values Fs) → es.0 x y ≡ true → x ≡ y) × Sames Fss es.1

same_choice : (Fss : List (List Field)) (es : Each Bool Fss) → Sames Fss es → (c d : Choice Fss) → by false false Fss es c d ≡ true → c ≡ d
same_choice [] es all c d h = absurd c
same_choice (Fs ∷ Fss) es all (inl x) (inl y) h = ap inl (all.0 x y h)
same_choice (Fs ∷ Fss) es all (inl x) (inr y) h = absurd (false≢true h)
same_choice (Fs ∷ Fss) es all (inr x) (inl y) h = absurd (false≢true h)
same_choice (Fs ∷ Fss) es all (inr x) (inr y) h = ap inr (same_choice Fss es.1 all.1 x y h)

-- variants without fields
points_same : (Fss : List (List Field)) → Bare Fss → Sames Fss (points true Fss)
points_same [] bare = tt
points_same ([] ∷ Fss) bare = (λ x y e. refl, points_same Fss bare)
points_same ((F ∷ Fs) ∷ Fss) bare = absurd bare

-- ---- kinds of literals

bases : (a b : Base) → of_base.ghosts.eq a b ≡ true → a ≡ b
bases a b e = search rules

ends : (a b : Bool) → of_literal.ghosts.eq (literal.Char a) (literal.Char b) ≡ true → a ≡ b
ends a b e = search rules

hashes : (a b : Option ℕ) → of_literal.ghosts.eq (literal.RawStr a) (literal.RawStr b) ≡ true → a ≡ b
hashes a b e = search rules

literal_same : (a b : LiteralKind) → of_literal.ghosts.eq a b ≡ true → a ≡ b
literal_same a b h =
    values_one the_literal.enum a b (same_choice the_literal.enum.parts _ (
      λ x y e. ap (λ v. (v, x.1)) (bases x.0 y.0 (first_so _ _ e)) ∙ ap (λ v. (y.0, (v, tt))) (ends x.1.0 y.1.0 (second_so _ _ e)),
      (
        λ x y e. ap (λ v. (v, x.1)) (bases x.0 y.0 (first_so _ _ e)) ∙ ap (λ v. (y.0, (v, tt))) (ends x.1.0 y.1.0 (second_so _ _ e)),
        (
          λ x y e. ap (λ v. (v, tt)) (ends x.0 y.0 e),
          (
            λ x y e. ap (λ v. (v, tt)) (ends x.0 y.0 e),
            (
              λ x y e. ap (λ v. (v, tt)) (ends x.0 y.0 e),
              (
                λ x y e. ap (λ v. (v, tt)) (ends x.0 y.0 e),
                (
                  λ x y e. ap (λ v. (v, tt)) (ends x.0 y.0 e),
                  (
                    λ x y e. ap (λ v. (v, tt)) (hashes x.0 y.0 e),
                    (
                      λ x y e. ap (λ v. (v, tt)) (hashes x.0 y.0 e),
                      (
                        λ x y e. ap (λ v. (v, tt)) (hashes x.0 y.0 e),
                        (
                          λ x y e. ap (λ v. (v, tt)) (hashes x.0 y.0 e),
                          tt,
                        ),
                      ),
                    ),
                  ),
                ),
              ),
            ),
          ),
        ),
      ),
    )
    (the_literal.enum.as_values a) (the_literal.enum.as_values b) h)

pub literals : IsEquality of_literal.ghosts.eq
literals a b = (literal_same a b, λ e. rw (← e) (literal_laws.laws-law.refl a))

-- ---- kinds of tokens

styles : (a b : Option DocStyle) → of_kind.ghosts.eq (kind.LineComment a) (kind.LineComment b) ≡ true → a ≡ b
styles a b e = search rules

flags : (a b : Bool) → of_kind.ghosts.eq (kind.Lifetime a) (kind.Lifetime b) ≡ true → a ≡ b
flags a b e = search rules

kind_same : (a b : TokenKind) → of_kind.ghosts.eq a b ≡ true → a ≡ b
kind_same a b h =
    values_one the_kind.enum a b (same_choice the_kind.enum.parts _ (
      λ x y e. ap (λ v. (v, tt)) (styles x.0 y.0 e),
      (
        λ x y e. ap (λ v. (v, x.1)) (styles x.0 y.0 (first_so _ _ e)) ∙ ap (λ v. (y.0, (v, tt))) (flags x.1.0 y.1.0 (second_so _ _ e)),
        (
          λ x y e. refl,
          (
            λ x y e. refl,
            (
              λ x y e. refl,
              (
                λ x y e. refl,
                (
                  λ x y e. refl,
                  (
                    λ x y e. refl,
                    (
                      λ x y e. refl,
                      (
                        λ x y e. refl,
                        (
                          λ x y e. refl,
                          (
                            λ x y e. ap (λ v. (v, x.1)) ((literals x.0 y.0).0 (first_so _ _ e)) ∙ ap (λ v. (y.0, (v, tt))) (eqb-true _ _ (second_so _ _ e)),
                            (
                              λ x y e. ap (λ v. (v, tt)) (flags x.0 y.0 e),
                              points_same (drop 13 the_kind.enum.parts) tt,
                            ),
                          ),
                        ),
                      ),
                    ),
                  ),
                ),
              ),
            ),
          ),
        ),
      ),
    )
    (the_kind.enum.as_values a) (the_kind.enum.as_values b) h)

pub kinds : IsEquality of_kind.ghosts.eq
kinds a b = (kind_same a b, λ e. rw (← e) (kind_laws.laws-law.refl a))

token_same : (a b : Token) → of_token.ghosts.eq a b ≡ true → a ≡ b
token_same a b e =
    let kind : a.kind ≡ b.kind = kind_same _ _ (first_so (of_kind.ghosts.eq a.kind b.kind) _ e) in
    let len : a.len ≡ b.len = eqb-true _ _ (second_so (of_kind.ghosts.eq a.kind b.kind) _ e) in
    ap (λ k. record { kind = k; len = a.len }) kind ∙ ap (λ n. record { kind = b.kind; len = n }) len

pub tokens : IsEquality of_token.ghosts.eq
tokens a b = (token_same a b, λ e. rw (← e) (token_laws.laws-law.refl a))
