-- What is added to a page in steps.
use Rattle.std.proofs.Common.{◌≡◌, ℕ, List, ◌++◌, ap, ◌∙◌, append_assoc}

pub two_more : (old one two a b : List ℕ) → one ≡ old ++ a → two ≡ one ++ b → two ≡ old ++ (a ++ b)
two_more old one two a b e f = f ∙ ap (λ (xs : List ℕ). xs ++ b) e ∙ append_assoc old a b

pub three_more : (old one two three a b c : List ℕ) → one ≡ old ++ a → two ≡ one ++ b → three ≡ two ++ c → three ≡ old ++ (a ++ (b ++ c))
three_more old one two three a b c e f g = two_more old one three a (b ++ c) e (two_more one two three b c f g)

pub four_more : (old one two three four a b c d : List ℕ) → one ≡ old ++ a → two ≡ one ++ b → three ≡ two ++ c → four ≡ three ++ d
    → four ≡ old ++ (a ++ (b ++ (c ++ d)))
four_more old one two three four a b c d e f g h = two_more old one four a (b ++ (c ++ d)) e (three_more one two three four b c d f g h)

-- what has two parts that are added at once
pub grouped_more : (old one two three four a b c d e : List ℕ) → one ≡ old ++ a → two ≡ one ++ (b ++ c) → three ≡ two ++ d → four ≡ three ++ e
    → four ≡ old ++ (a ++ ((b ++ (c ++ d)) ++ e))
grouped_more old one two three four a b c d e f g h k =
    let inner : three ≡ one ++ (b ++ (c ++ d)) = two_more one two three (b ++ c) d g h ∙ ap (λ (xs : List ℕ). one ++ xs) (append_assoc b c d) in
    three_more old one three four a (b ++ (c ++ d)) e f inner k
