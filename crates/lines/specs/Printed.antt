-- What the program prints: the bytes of an answer and of the model that was found. Assumes nothing: these are definitions.
use Rattle.std.specs.Prelude.{List, [], ◌∷◌, ◌++◌, ℕ, ◌<◌, eqb, take, drop, get_or}
use Rattle.logic.specs.declared.Answer.{Answer}
use Rattle.logic.specs.Numbers.{yes_number}
use Rattle.put.specs.Decimal.{choose, decimal, numbered}

-- "`shape` ends every line with a line feed."
abbrev pub line_feed : ℕ
line_feed = 10

abbrev pub space : ℕ
space = 32

-- "answer ", " place ", " tried "
abbrev pub answer_word : List ℕ
answer_word = 97 ∷ 110 ∷ 115 ∷ 119 ∷ 101 ∷ 114 ∷ space ∷ []

abbrev pub place_word : List ℕ
place_word = space ∷ 112 ∷ 108 ∷ 97 ∷ 99 ∷ 101 ∷ space ∷ []

abbrev pub tried_word : List ℕ
tried_word = space ∷ 116 ∷ 114 ∷ 105 ∷ 101 ∷ 100 ∷ space ∷ []

-- "stack", "heap"
abbrev pub stack_word : List ℕ
stack_word = 115 ∷ 116 ∷ 97 ∷ 99 ∷ 107 ∷ []

abbrev pub heap_word : List ℕ
heap_word = 104 ∷ 101 ∷ 97 ∷ 112 ∷ []

-- "answer 0 place 0 tried 6": an answer's number, place and tried count
unfoldable pub first_line : Answer → List ℕ
first_line a = numbered answer_word a.number ++ numbered place_word a.place ++ numbered tried_word a.tried ++ (line_feed ∷ [])

-- "one space before each": what f writes for each of the bytes
unfoldable pub spaced : (ℕ → List ℕ) → ℕ → List ℕ
spaced f x = (space ∷ []) ++ f x

unfoldable pub listed : (ℕ → List ℕ) → List ℕ → List ℕ
listed f [] = []
listed f (x ∷ xs) = spaced f x ++ listed f xs

-- "after the word, one space before each". "With v = 0 the line is just `stack`, with n = 0 just `heap`."
unfoldable pub line : List ℕ → (ℕ → List ℕ) → List ℕ → List ℕ
line w f xs = w ++ listed f xs ++ (line_feed ∷ [])

-- "The stack line has each variable's location": the model's first v bytes
abbrev pub stack_line : ℕ → List ℕ → List ℕ
stack_line v model = line stack_word decimal (take v model)

-- the model's first v bytes are locations: none is 255
abbrev pub Locations : ℕ → List ℕ → Type 0
Locations v model = (i : ℕ) → i < v → get_or model i 0 < 255

-- "each cell's value or `-`", 255 being an unallocated cell
unfoldable pub printed_value : ℕ → List ℕ
printed_value x = choose (eqb x 255) (45 ∷ []) (decimal x)

-- "the heap line each cell's value or `-`": the n bytes after them
abbrev pub heap_line : ℕ → ℕ → List ℕ → List ℕ
heap_line v n model = line heap_word printed_value (take n (drop v model))

-- both lines of a model over v variables and n locations
unfoldable pub printed_model : ℕ → ℕ → List ℕ → List ℕ
printed_model v n model = stack_line v model ++ heap_line v n model

-- what is printed for the answer a and the model. "With any other answer only the first line appears."
unfoldable pub printed : Answer → ℕ → ℕ → List ℕ → List ℕ
printed a v n model = choose (eqb a.number yes_number) (first_line a ++ printed_model v n model) (first_line a)
