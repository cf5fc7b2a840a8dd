-- Frames: a head that says how many bytes a body has, and the body. (LSP 3.17, "Base Protocol".) A
-- head is fields, each in a line that ends with `\r\n`, and an empty line.
use Rattle.std.specs.Prelude.{◌≡◌, ℕ, ◌+◌, ◌-◌, ◌*◌, ◌^◌, ◌&&◌, Bool, true, false, if◌then◌else◌, List, [], ◌∷◌, ◌++◌, codes, decimal, drop, length, nat_eq, nat_le, Option, Some, None, option_and_then, take}
use Rattle.std.specs.Char.{is_ascii_digit, to_ascii_lowercase}
use Rattle.std.specs.List.{starts_with}
use Rattle.rpc_frames.specs.declared.begin.Begin.{Begin}
use Rattle.rpc_frames.specs.declared.begin.Begin.TheVariants.{Partial, Broken, Whole}

-- the end of a line, and an empty line
abbrev pub empty_line : List ℕ
empty_line = 13 ∷ 10 ∷ 13 ∷ 10 ∷ []

-- where the first empty line of these bytes ends, which are from byte `at` on
abbrev pub head_end : (at : ℕ) → List ℕ → Option ℕ
head_end at [] = None
head_end at (b ∷ bs) =
    if starts_with nat_eq (b ∷ bs) empty_line then Some (at + 4) else head_end (at + 1) bs

-- how many bytes there are up to the end of the first empty line
abbrev pub head_len : List ℕ → Option ℕ
head_len bytes = head_end 0 bytes

-- the name of the field that has the length of the body
abbrev pub field_name : List ℕ
field_name = codes "content-length:"

-- whether a line begins with a name of small letters, whatever is capital in the line
abbrev pub has_name : (name line : List ℕ) → Bool
has_name [] line = true
has_name (n ∷ ns) [] = false
has_name (n ∷ ns) (b ∷ bs) = nat_eq n (to_ascii_lowercase b) && has_name ns bs

-- what comes behind the first such name; `is_begin` says whether a line begins here
abbrev pub behind_name : (is_begin : Bool) → List ℕ → Option (List ℕ)
behind_name is_begin [] = None
behind_name is_begin (b ∷ bs) = if is_begin && has_name field_name (b ∷ bs)
    then Some (drop (length field_name) (b ∷ bs)) else behind_name (nat_eq b 10) bs

-- the most bytes that a body may have: 256 MB
abbrev pub max_body : ℕ
max_body = 2 ^ 28

-- the number that the digits up to the line's end write, behind those of `n`, if it is small enough
abbrev pub number_from : ℕ → List ℕ → Option ℕ
number_from n [] = None
number_from n (b ∷ bs) = if nat_eq b 13 then Some n else
    (if is_ascii_digit b && nat_le (n * 10 + (b - 48)) max_body
    then number_from (n * 10 + (b - 48)) bs else None)

-- the number of a field: blanks, and then one digit or more
abbrev pub number_in : List ℕ → Option ℕ
number_in [] = None
number_in (b ∷ bs) = if nat_eq b 32 then number_in bs else
    (if is_ascii_digit b then number_from 0 (b ∷ bs) else None)

-- the length that a head says
abbrev pub length_in : List ℕ → Option ℕ
length_in head = option_and_then number_in (behind_name true head)

-- what these bytes begin with, if the first of them are a head and a length is said so: a whole
-- frame, or less; without a good length nothing says where the frame ends
abbrev pub begin_after : List ℕ → ℕ → Option ℕ → Begin
begin_after bytes head None = Broken
begin_after bytes head (Some body) =
    if nat_le (head + body) (length bytes) then Whole head body else Partial

abbrev pub begin_with : List ℕ → Option ℕ → Begin
begin_with bytes None = Partial
begin_with bytes (Some head) = begin_after bytes head (length_in (take head bytes))

-- what a stream begins with
abbrev pub begin_of : List ℕ → Begin
begin_of bytes = begin_with bytes (head_len bytes)

-- a frame on a stream: its head, which ends with its first empty line and says the body's length,
-- and the body
pub record Frame : Type 0 where
  pub head : List ℕ
  pub body : List ℕ

pub record IsFrame (f : Frame) : Type 0 where
  pub ends : head_len f.head ≡ Some (length f.head)
  pub says : length_in f.head ≡ Some (length f.body)

-- the bytes of a frame
abbrev pub bytes_of : Frame → List ℕ
bytes_of f = f.head ++ f.body

-- a body in a frame with the shortest head
abbrev pub framed : List ℕ → List ℕ
framed body = codes "Content-Length: " ++ (decimal (length body) ++ (empty_line ++ body))
