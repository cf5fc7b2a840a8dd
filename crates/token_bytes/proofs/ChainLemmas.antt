-- Chains of numbers: one more, one fewer, and the search from one to the one before it.
use Rattle.std.proofs.Common.{◌≡◌, ◌≢◌, ◌∙◌, ap, sym, subst, refl, ℕ, zero, suc, ◌<◌, ◌≤◌, ◌⊎◌, inl, inr, arith}
use Rattle.token_bytes.specs.Numbers.{AreChained}

pub less_or : (i n : ℕ) → i < suc n → (i < n) ⊎ (i ≡ n)
less_or zero zero h = inr refl
less_or zero (suc n) h = inl (omega arith)
less_or (suc i) zero h = absurd (omega (arith, h))
less_or (suc i) (suc n) h = elim (less_or i n (omega (arith, h))) [ inl lt ↦ inl (omega (arith, lt)) | inr e ↦ inr (ap suc e) ]

pub same_or : (a b : ℕ) → (a ≡ b) ⊎ (a ≢ b)
same_or zero zero = inl refl
same_or zero (suc b) = inr (λ e. absurd (omega (arith, e)))
same_or (suc a) zero = inr (λ e. absurd (omega (arith, e)))
same_or (suc a) (suc b) = elim (same_or a b) [ inl e ↦ inl (ap suc e) | inr other ↦ inr (λ e. other (omega (arith, e))) ]

module _ (n : ℕ) (class links ends : ℕ → ℕ) (class2 links2 ends2 : ℕ → ℕ) where
  -- the next number goes to the end of its chain
  module _ (is : AreChained n class links ends) (classes : (i : ℕ) → i < n → class2 i ≡ class i) (befores : (i : ℕ) → i < n → links2 i ≡ links i)
      (linked : links2 n ≡ ends (class2 n)) (put : ends2 (class2 n) ≡ suc n) (others : (c : ℕ) → c ≢ class2 n → ends2 c ≡ ends c) where
    last_more : (i : ℕ) → i < suc n → i < ends2 (class2 i)
    last_more i below = elim (same_or (class2 i) (class2 n)) [
      | inl e ↦ rw e (omega (arith, put, below))
      | inr other ↦ elim (less_or i n below) [
        | inl lt ↦ rw (others (class2 i) other, classes i lt) (is.last i lt)
        | inr e ↦ absurd (other (ap class2 e))
      ]
    ]

    last_is_more : (c i : ℕ) → ends2 c ≡ suc i → (i < suc n) × (class2 i ≡ c)
    last_is_more c i e = elim (same_or c (class2 n)) [
      | inl here ↦
          let at : i ≡ n = omega (arith, e, ap ends2 here, put) in
          (omega (arith, at), ap class2 at ∙ sym here)
      | inr other ↦
          let h = is.last_is c i (sym (others c other) ∙ e) in
          (omega (arith, h.0), classes i h.0 ∙ h.1)
    ]

    before_more : (i j : ℕ) → i < j → j < suc n → class2 i ≡ class2 j → i < links2 j
    before_more i j order below e = elim (less_or j n below) [
      | inl lt ↦
          let il : i < n = omega (arith, order, lt) in
          rw (befores j lt) (is.before i j order lt (sym (classes i il) ∙ e ∙ classes j lt))
      | inr at ↦
          let il : i < n = omega (arith, order, at) in
          let h : i < ends (class i) = is.last i il in
          let to : ends (class i) ≡ links2 j = ap ends (sym (classes i il) ∙ e ∙ ap class2 at) ∙ sym linked ∙ ap links2 (sym at) in
          subst (λ x. i < x) to h
    ]

    before_is_more : (j i : ℕ) → j < suc n → links2 j ≡ suc i → (i < j) × (class2 i ≡ class2 j)
    before_is_more j i below e = elim (less_or j n below) [
      | inl lt ↦
          let h = is.before_is j i lt (sym (befores j lt) ∙ e) in
          (h.0, classes i (omega (arith, h.0, lt)) ∙ h.1 ∙ sym (classes j lt))
      | inr at ↦
          let h = is.last_is (class2 n) i (sym linked ∙ ap links2 (sym at) ∙ e) in
          (omega (arith, h.0, at), classes i h.0 ∙ h.1 ∙ ap class2 (sym at))
    ]

    pub chained_more : AreChained (suc n) class2 links2 ends2
    chained_more = record { last = last_more; last_is = last_is_more; before = before_more; before_is = before_is_more }

  -- the last number goes from the end of its chain
  module _ (is : AreChained (suc n) class links ends) (classes : (i : ℕ) → i < n → class2 i ≡ class i) (befores : (i : ℕ) → i < n → links2 i ≡ links i)
      (k : ℕ) (at_end : k ≡ class n) (put : ends2 k ≡ links n) (others : (c : ℕ) → c ≢ k → ends2 c ≡ ends c) where
    last_fewer : (i : ℕ) → i < n → i < ends2 (class2 i)
    last_fewer i below = elim (same_or (class2 i) k) [
      | inl e ↦ rw (e, put) (is.before i n below (omega arith) (sym (classes i below) ∙ e ∙ at_end))
      | inr other ↦ rw (others (class2 i) other, classes i below) (is.last i (omega (arith, below)))
    ]

    last_is_fewer : (c i : ℕ) → ends2 c ≡ suc i → (i < n) × (class2 i ≡ c)
    last_is_fewer c i e = elim (same_or c k) [
      | inl here ↦
          let h = is.before_is n i (omega arith) (sym put ∙ ap ends2 (sym here) ∙ e) in
          (h.0, classes i h.0 ∙ h.1 ∙ sym at_end ∙ sym here)
      | inr other ↦
          let h = is.last_is c i (sym (others c other) ∙ e) in
          elim (less_or i n h.0) [
            | inl lt ↦ (lt, classes i lt ∙ h.1)
            | inr at ↦ absurd (other (sym h.1 ∙ ap class at ∙ sym at_end))
          ]
    ]

    pub chained_fewer : AreChained n class2 links2 ends2
    chained_fewer = record {
      last = last_fewer;
      last_is = last_is_fewer;
      before = λ i j order below e.
          let jl : j < suc n = omega (arith, below) in
          let il : i < n = omega (arith, below, order) in
          rw (befores j below) (is.before i j order jl (sym (classes i il) ∙ e ∙ classes j below));
      before_is = λ j i below e.
          let jl : j < suc n = omega (arith, below) in
          let h = is.before_is j i jl (sym (befores j below) ∙ e) in
          (h.0, classes i (omega (arith, h.0, below)) ∙ h.1 ∙ sym (classes j below));
    }

-- a search for what is of a class: it is before a place, and the place is in the chain of the class
pub record IsReached (n : ℕ) (class : ℕ → ℕ) (c : ℕ) (Is : ℕ → Type 0) (count : ℕ) : Type 0 where
  pub within : (i : ℕ) → i < n → Is i → i < count
  pub here : (j : ℕ) → count ≡ suc j → (j < n) × (class j ≡ c)

module _ (n : ℕ) (class links ends : ℕ → ℕ) (chained : AreChained n class links ends) (c : ℕ) (Is : ℕ → Type 0) (of : (i : ℕ) → Is i → class i ≡ c) where
  pub reached_first : IsReached n class c Is (ends c)
  reached_first = record {
    within = λ i below is. subst (λ x. i < ends x) (of i is) (chained.last i below);
    here = λ j e. chained.last_is c j e;
  }

  module _ (j : ℕ) (reached : IsReached n class c Is (suc j)) where
    pub goes_back : links j ≤ j
    goes_back = by (links j) refl where
      by : (b : ℕ) → links j ≡ b → b ≤ j
      by zero e = omega arith
      by (suc i) e = let h = chained.before_is j i (reached.here j refl).0 e in omega (arith, h.0)

    pub reached_next : (Is j → ⊥) → IsReached n class c Is (links j)
    reached_next other =
        let h : (j < n) × (class j ≡ c) = reached.here j refl in
        record {
          within = λ i below is. elim (less_or i j (reached.within i below is)) [
            | inl lt ↦ chained.before i j lt h.0 (of i is ∙ sym h.1)
            | inr e ↦ absurd (other (subst Is e is))
          ];
          here = λ i e. let b = chained.before_is j i h.0 e in (omega (arith, b.0, h.0), b.1 ∙ h.1);
        }
