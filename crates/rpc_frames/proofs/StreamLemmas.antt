-- A stream has one reading. (For `take` and the law `streams_have_one_reading`.)
use Rattle.std.proofs.Common.{◌≡◌, ℕ, zero, suc, ◌+◌, ◌-◌, ◌≤◌, Bool, true, false, if◌then◌else◌, List, [], ◌∷◌, ◌++◌, length, drop, take, nat_eq, nat_le, refl, sym, ap, ◌∙◌, length-drop, arith, append_assoc, min, Option, Some, None}
use Rattle.std.specs.List.{flat_map, starts_with}
use lib.Pointwise.{pointwise}
use Rattle.std.proofs.lemmas.Grind.{common_steps}
use Rattle.std.proofs.lemmas.List.{drop-drop, take-append-drop, take-take, length-take}
use Rattle.std.proofs.Math.Seq.{take-append_seam, take-length}
use Rattle.rpc_frames.specs.Frames.{Frame, IsFrame, begin_after, begin_of, begin_with, bytes_of, empty_line, head_end, head_len, length_in}
use Rattle.rpc_frames.specs.Streams.{AreFrames, LacksFrame, stream_of}
use Rattle.rpc_frames.specs.declared.begin.Begin.TheVariants.{Whole}

-- an empty line has four bytes with the end of the line before it
four : (xs : List ℕ) → starts_with nat_eq xs empty_line ≡ true → 4 ≤ length xs
four [] begins = grind arith
four (a ∷ []) begins = grind arith
four (a ∷ b ∷ []) begins = grind arith
four (a ∷ b ∷ c ∷ []) begins = grind arith
four (a ∷ b ∷ c ∷ d ∷ xs) begins = omega arith

-- where an empty line ends is behind its four bytes, and within the bytes
bounds_by : (at : ℕ) (x : ℕ) (xs : List ℕ) (end : ℕ) (begins : Bool)
    → (begins ≡ true → 4 ≤ length (x ∷ xs))
    → (head_end (at + 1) xs ≡ Some end → (at + 1 + 4 ≤ end) × (end ≤ at + 1 + length xs))
    → (if begins then Some (at + 4) else head_end (at + 1) xs) ≡ Some end
    → (at + 4 ≤ end) × (end ≤ at + length (x ∷ xs))
bounds_by at x xs end true long rest ends =
    let here : 4 ≤ length (x ∷ xs) = long refl in
    let is : at + 4 ≡ end = cc in
    (omega (arith, is), omega (arith, is, here))
bounds_by at x xs end false long rest ends =
    let more = rest ends in
    (omega (arith, more.0), omega (arith, more.1))

head_end-bounds : (at : ℕ) (xs : List ℕ) (end : ℕ) → head_end at xs ≡ Some end
    → (at + 4 ≤ end) × (end ≤ at + length xs)
head_end-bounds at [] end ends = grind arith
head_end-bounds at (x ∷ xs) end ends =
    bounds_by at x xs end (starts_with nat_eq (x ∷ xs) empty_line) (four (x ∷ xs))
    (head_end-bounds (at + 1) xs end) ends

-- four bytes in common
common_four : (xs ys : List ℕ) (n : ℕ) → 4 ≤ n → take n ys ≡ take n xs
    → take 4 ys ≡ take 4 xs
common_four xs ys n long same =
    sym (take-take 4 n ys long) ∙ ap (take 4) same ∙ take-take 4 n xs long

-- what has the bytes up to an empty line's end has the empty line
same_by : (at : ℕ) (x : ℕ) (xs : List ℕ) (y : ℕ) (ys : List ℕ) (end : ℕ) (begins : Bool)
    → starts_with nat_eq (y ∷ ys) empty_line ≡ begins
    → (head_end (at + 1) xs ≡ Some end → head_end (at + 1) ys ≡ Some end)
    → (if begins then Some (at + 4) else head_end (at + 1) xs) ≡ Some end
    → head_end at (y ∷ ys) ≡ Some end
same_by at x xs y ys end true begins rest ends = rw begins ends
same_by at x xs y ys end false begins rest ends = rw begins (rest ends)

pub head_end-same : (at : ℕ) (xs ys : List ℕ) (end n : ℕ) → head_end at xs ≡ Some end
    → at + n ≡ end → take n ys ≡ take n xs → n ≤ length ys → head_end at ys ≡ Some end
head_end-same at [] ys end n ends sum same long = grind arith
head_end-same at (x ∷ xs) [] end n ends sum same long =
    let bounds = head_end-bounds at (x ∷ xs) end ends in
    let none : n ≤ 0 = long in
    absurd (omega (arith, bounds.0, sum, none))
head_end-same at (x ∷ xs) (y ∷ ys) end zero ends sum same long =
    let bounds = head_end-bounds at (x ∷ xs) end ends in
    absurd (omega (arith, bounds.0, sum))
head_end-same at (x ∷ xs) (y ∷ ys) end (suc n) ends sum same long =
    let bounds = head_end-bounds at (x ∷ xs) end ends in
    let fours : take 4 (y ∷ ys) ≡ take 4 (x ∷ xs) =
    common_four (x ∷ xs) (y ∷ ys) (suc n) (omega (arith, bounds.0, sum)) same in
    let begins : starts_with nat_eq (y ∷ ys) empty_line ≡ starts_with nat_eq (x ∷ xs) empty_line =
    ap (pointwise nat_eq empty_line) fours in
    let tails : take n ys ≡ take n xs = cc in
    let sums : at + 1 + n ≡ end = omega (arith, sum) in
    let short : n ≤ length ys = omega (arith, long) in
    same_by at x xs y ys end (starts_with nat_eq (x ∷ xs) empty_line) begins
    (λ more. head_end-same (at + 1) xs ys end n more sums tails short) ends

-- what begins with a frame is said to
begin_found : (bytes : List ℕ) (head body : ℕ) → head_len bytes ≡ Some head
    → length_in (take head bytes) ≡ Some body → head + body ≤ length bytes
    → begin_of bytes ≡ Whole head body
begin_found bytes head body ends says within =
    let fits : nat_le (head + body) (length bytes) ≡ true = grind arith in
    rw (ends, says, fits) refl

-- a frame is found, whatever comes behind it
pub begin_of-frame : (f : Frame) (more : List ℕ) → IsFrame f
    → begin_of (bytes_of f ++ more) ≡ Whole (length f.head) (length f.body)
begin_of-frame f more is =
    let front : take (length f.head) (bytes_of f ++ more) ≡ f.head =
    rw append_assoc (take-append_seam f.head (f.body ++ more)) in
    let within : length f.head + length f.body ≤ length (bytes_of f ++ more) =
    grind (arith, common_steps) in
    let ends : head_len (bytes_of f ++ more) ≡ Some (length f.head) =
    head_end-same 0 f.head (bytes_of f ++ more) (length f.head) (length f.head) is.ends
    (omega arith) (front ∙ sym (take-length f.head)) (omega (arith, within)) in
    begin_found (bytes_of f ++ more) (length f.head) (length f.body) ends (rw front is.says) within

-- what is said of bytes that begin with a whole frame
pub record BeginsWhole (bytes : List ℕ) (head body : ℕ) : Type 0 where
  pub ends : head_len bytes ≡ Some head
  pub says : length_in (take head bytes) ≡ Some body
  pub within : head + body ≤ length bytes

whole_after : (bytes : List ℕ) (end head body : ℕ) (says : Option ℕ)
    → begin_after bytes end says ≡ Whole head body
    → (end ≡ head) × (says ≡ Some body) × (head + body ≤ length bytes)
whole_after bytes end head body None begins = grind arith
whole_after bytes end head body (Some size) begins = grind arith

whole_by : (bytes : List ℕ) (head body : ℕ) (end : Option ℕ) → head_len bytes ≡ end
    → begin_with bytes end ≡ Whole head body → BeginsWhole bytes head body
whole_by bytes head body None is begins = grind arith
whole_by bytes head body (Some end) is begins =
    let after = whole_after bytes end head body (length_in (take end bytes)) begins in
    let same : end ≡ head = after.0 in
    record {
      ends = is ∙ ap (λ (n : ℕ). Some n) same;
      says = ap (λ (n : ℕ). length_in (take n bytes)) (sym same) ∙ after.1;
      within = after.2;
    }

-- the smaller of two
min_first : (a b : ℕ) → a ≤ b → min a b ≡ a
min_first a b less = omega (arith, less)

-- three parts of a list
parts : (bytes : List ℕ) (head body : ℕ)
    → bytes ≡ (take head bytes ++ take body (drop head bytes)) ++ drop (head + body) bytes
parts bytes head body =
    sym (take-append-drop head bytes)
    ∙ ap (λ (rest : List ℕ). take head bytes ++ rest)
    (sym (take-append-drop body (drop head bytes))
    ∙ ap (λ (rest : List ℕ). take body (drop head bytes) ++ rest) (drop-drop body head bytes))
    ∙ sym (append_assoc (take head bytes) (take body (drop head bytes)) (drop (head + body) bytes))

-- what is found is a frame
pub frame_of : (bytes : List ℕ) (head body : ℕ) → begin_of bytes ≡ Whole head body
    → (f : Frame) × IsFrame f × (f.head ≡ take head bytes) × (f.body ≡ take body (drop head bytes))
    × (bytes ≡ bytes_of f ++ drop (head + body) bytes)
frame_of bytes head body begins =
    let is : BeginsWhole bytes head body =
    whole_by bytes head body (head_len bytes) refl begins in
    let bounds = head_end-bounds 0 bytes head is.ends in
    let long : length (take head bytes) ≡ head =
    length-take head bytes ∙ min_first head (length bytes) (omega (arith, bounds.1)) in
    let full : length (take body (drop head bytes)) ≡ body =
    length-take body (drop head bytes) ∙ min_first body (length (drop head bytes))
    (rw length-drop omega (arith, is.within)) in
    let ends : head_len (take head bytes) ≡ Some (length (take head bytes)) =
    rw long (head_end-same 0 bytes (take head bytes) head head is.ends (omega arith)
    (take-take head head bytes (omega arith)) (omega (arith, long))) in
    let says : length_in (take head bytes) ≡ Some (length (take body (drop head bytes))) =
    rw full is.says in
    let whole : bytes
    ≡ (take head bytes ++ take body (drop head bytes)) ++ drop (head + body) bytes =
    parts bytes head body in (
      record { head = take head bytes; body = take body (drop head bytes) },
      record { ends = ends; says = says },
      refl,
      refl,
      whole,
    )

-- what is cut out as a frame and left as the rest
pub taken_frame : (bytes : List ℕ) (head body : ℕ) (taken rest : List ℕ)
    → begin_of bytes ≡ Whole head body
    → taken ≡ take (head + body - head) (drop head bytes)
    → rest ≡ take (length bytes - (head + body)) (drop (head + body) bytes)
    → (f : Frame) × IsFrame f × (f.body ≡ taken) × (bytes ≡ bytes_of f ++ rest)
taken_frame bytes head body taken rest begins is_taken is_rest =
    let found = frame_of bytes head body begins in
    let size : head + body - head ≡ body = omega arith in
    let left : length (drop (head + body) bytes) ≡ length bytes - (head + body) =
    length-drop (head + body) bytes in
    let whole : take (length bytes - (head + body)) (drop (head + body) bytes)
    ≡ drop (head + body) bytes =
    rw (← left) (take-length (drop (head + body) bytes)) in (
      found.0,
      found.1,
      found.3 ∙ ap (λ (n : ℕ). take n (drop head bytes)) (sym size) ∙ sym is_taken,
      found.4 ∙ ap (λ (more : List ℕ). bytes_of found.0 ++ more) (sym (is_rest ∙ whole)),
    )

-- lists with fronts of one length
same_front : (xs ys us vs : List ℕ) → length xs ≡ length ys → xs ++ us ≡ ys ++ vs
    → (xs ≡ ys) × (us ≡ vs)
same_front [] [] us vs long same = (refl, same)
same_front [] (y ∷ ys) us vs long same = absurd (omega (arith, long))
same_front (x ∷ xs) [] us vs long same = absurd (omega (arith, long))
same_front (x ∷ xs) (y ∷ ys) us vs long same =
    let firsts : x ≡ y = cc in
    let rests : xs ++ us ≡ ys ++ vs = cc in
    let more = same_front xs ys us vs (omega (arith, long)) rests in
    let fronts : xs ≡ ys = more.0 in
    (cc, more.1)

-- a stream begins with its first frame
first_of : (f : Frame) (fs : List Frame) (rest : List ℕ)
    → stream_of (f ∷ fs) rest ≡ bytes_of f ++ stream_of fs rest
first_of f fs rest = append_assoc (bytes_of f) (flat_map bytes_of fs) rest

-- a frame is its head and its body
same_frame : (f g : Frame) → f.head ≡ g.head → f.body ≡ g.body → f ≡ g
same_frame f g heads bodies =
    ap (λ (h : List ℕ). record { head = h; body = f.body }) heads
    ∙ ap (λ (b : List ℕ). record { head = g.head; body = b }) bodies

-- two readings of a stream are one
pub one_reading : (frames others : List Frame) (rest other_rest : List ℕ)
    → AreFrames frames → AreFrames others → LacksFrame rest → LacksFrame other_rest
    → stream_of frames rest ≡ stream_of others other_rest
    → (frames ≡ others) × (rest ≡ other_rest)
one_reading [] [] rest other_rest are others_are none other_none same = (refl, same)
one_reading [] (g ∷ gs) rest other_rest are others_are none other_none same =
    absurd (none (length g.head) (length g.body)
    (ap begin_of (same ∙ first_of g gs other_rest)
    ∙ begin_of-frame g (stream_of gs other_rest) others_are.0))
one_reading (f ∷ fs) [] rest other_rest are others_are none other_none same =
    absurd (other_none (length f.head) (length f.body)
    (ap begin_of (sym same ∙ first_of f fs rest) ∙ begin_of-frame f (stream_of fs rest) are.0))
one_reading (f ∷ fs) (g ∷ gs) rest other_rest are others_are none other_none same =
    let one : bytes_of f ++ stream_of fs rest ≡ bytes_of g ++ stream_of gs other_rest =
    sym (first_of f fs rest) ∙ same ∙ first_of g gs other_rest in
    let begins : Whole (length f.head) (length f.body) ≡ Whole (length g.head) (length g.body) =
    sym (begin_of-frame f (stream_of fs rest) are.0) ∙ ap begin_of one
    ∙ begin_of-frame g (stream_of gs other_rest) others_are.0 in
    let heads : length f.head ≡ length g.head = cc in
    let bodies : length f.body ≡ length g.body = cc in
    let apart : f.head ++ (f.body ++ stream_of fs rest)
    ≡ g.head ++ (g.body ++ stream_of gs other_rest) =
    sym (append_assoc f.head f.body (stream_of fs rest)) ∙ one
    ∙ append_assoc g.head g.body (stream_of gs other_rest) in
    let fronts = same_front f.head g.head (f.body ++ stream_of fs rest)
    (g.body ++ stream_of gs other_rest) heads apart in
    let backs =
    same_front f.body g.body (stream_of fs rest) (stream_of gs other_rest) bodies fronts.1 in
    let more = one_reading fs gs rest other_rest are.1 others_are.1 none other_none backs.1 in
    let head : f.head ≡ g.head = fronts.0 in
    let body : f.body ≡ g.body = backs.0 in
    let first : f ≡ g = same_frame f g head body in
    let others : fs ≡ gs = more.0 in
    (cc, more.1)
