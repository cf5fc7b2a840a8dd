-- Words that name a home.
use Rattle.std.proofs.Common.{◌≡◌, ◌≢◌, ℕ, Bool, true, false, List, [], ◌∷◌, ◌++◌, Option, Some, None, sym, ap, ◌∙◌, refl, get_or, arith}
use Rattle.std.specs.Prelude.{if◌then◌else◌}
use Rattle.tt_data.specs.declared.edition.Edition.{Edition}
use Rattle.tt_data.specs.declared.edition.Edition.TheVariants.{Edition2015, Edition2018, Edition2021, Edition2024}
use Rattle.expander_sources.specs.Homes.{Home, home_named, is_root_word}
use Rattle.crate_picks.specs.Editions.{edition_name}
use Rattle.replay_script.specs.Words.{IsHome, Lacks}
use Rattle.replay_script.proofs.WordLemmas.{cut_same, without_mark}

-- the digit that tells editions apart
abbrev last_digit : List ℕ → ℕ
last_digit name = get_or name 3 0

-- an edition is told by its name
pub same_edition : (d e : Edition) → edition_name d ≡ edition_name e → d ≡ e
same_edition Edition2015 Edition2015 h = refl
same_edition Edition2015 Edition2018 h = absurd (omega (arith, ap last_digit h))
same_edition Edition2015 Edition2021 h = absurd (omega (arith, ap last_digit h))
same_edition Edition2015 Edition2024 h = absurd (omega (arith, ap last_digit h))
same_edition Edition2018 Edition2015 h = absurd (omega (arith, ap last_digit h))
same_edition Edition2018 Edition2018 h = refl
same_edition Edition2018 Edition2021 h = absurd (omega (arith, ap last_digit h))
same_edition Edition2018 Edition2024 h = absurd (omega (arith, ap last_digit h))
same_edition Edition2021 Edition2015 h = absurd (omega (arith, ap last_digit h))
same_edition Edition2021 Edition2018 h = absurd (omega (arith, ap last_digit h))
same_edition Edition2021 Edition2021 h = refl
same_edition Edition2021 Edition2024 h = absurd (omega (arith, ap last_digit h))
same_edition Edition2024 Edition2015 h = absurd (omega (arith, ap last_digit h))
same_edition Edition2024 Edition2018 h = absurd (omega (arith, ap last_digit h))
same_edition Edition2024 Edition2021 h = absurd (omega (arith, ap last_digit h))
same_edition Edition2024 Edition2024 h = refl

-- a word without an `@` that is no `-` names no home
pub no_at : (word : List ℕ) → word ≢ 45 ∷ [] → Lacks 64 word → (home : Option Home) → IsHome word home → ⊥
no_at word other lacks None h = other h
no_at word other lacks (Some home) h = without_mark 64 word h.0 (edition_name home.edition) lacks h.1

-- nor one that ends with no edition
pub no_edition : (word root year : List ℕ) → word ≢ 45 ∷ [] → word ≡ root ++ 64 ∷ year → Lacks 64 root → ((e : Edition) → year ≢ edition_name e)
    → (home : Option Home) → IsHome word home → ⊥
no_edition word root year other is lacks bad None h = other h
no_edition word root year other is lacks bad (Some home) h =
    bad home.edition (cut_same 64 root year h.0 (edition_name home.edition) (sym is ∙ h.1) lacks h.2).1

not_both : {A : Type 0} {x : A} → None ≡ Some x → ⊥
not_both e = absurd (cc e)

-- nor one whose root can be no crate's
pub no_root : (word root year : List ℕ) (e : Edition) → word ≢ 45 ∷ [] → word ≡ root ++ 64 ∷ year → Lacks 64 root → year ≡ edition_name e → home_named root e ≡ None
    → (home : Option Home) → IsHome word home → ⊥
no_root word root year e other is lacks named none None h = other h
no_root word root year e other is lacks named none (Some home) h =
    let same = cut_same 64 root year h.0 (edition_name home.edition) (sym is ∙ h.1) lacks h.2 in
    let edition : e ≡ home.edition = same_edition e home.edition (sym named ∙ same.1) in
    let found : home_named root e ≡ Some home = ap (λ (r : List ℕ). home_named r e) same.0 ∙ ap (λ (d : Edition). home_named h.0 d) edition ∙ h.3 in
    absurd (not_both (sym none ∙ found))

abbrev chosen_home : List ℕ → Edition → Bool → Option Home
chosen_home root e is = if is then Some (record { root = root; edition = e }) else None

abbrev edition_in : Edition → Option Home → Edition
edition_in e None = e
edition_in e (Some home) = home.edition

-- a home has the edition that it is named with
named_edition : (root : List ℕ) (e : Edition) (home : Home) → home_named root e ≡ Some home → home.edition ≡ e
named_edition root e home is = go (is_root_word root) refl
  where
    go : (b : Bool) → is_root_word root ≡ b → home.edition ≡ e
    go true t = sym (ap (edition_in e) is) ∙ ap (λ (b : Bool). edition_in e (chosen_home root e b)) t
    go false t = sym (ap (edition_in e) is) ∙ ap (λ (b : Bool). edition_in e (chosen_home root e b)) t

-- a root and the name of an edition name a home
pub is_home : (word root year : List ℕ) (e : Edition) (home : Home) → word ≡ root ++ 64 ∷ year → Lacks 64 root → year ≡ edition_name e → home_named root e ≡ Some home
    → IsHome word (Some home)
is_home word root year e home is lacks named found =
    let same : home.edition ≡ e = named_edition root e home found in (
      root,
      is ∙ ap (λ (y : List ℕ). root ++ 64 ∷ y) (named ∙ sym (ap edition_name same)),
      lacks,
      ap (λ (d : Edition). home_named root d) same ∙ found,
    )
