-- The numbers given back: document 01's table "Numbers given back", and the answers made of them. This is the one list of
-- numbers; the constants of the code are named after it. Assumes nothing: these are definitions.
use Rattle.std.specs.Prelude.{ℕ}
use Rattle.logic.specs.declared.Answer.{Answer}

-- "fits, found, written"
abbrev pub yes_number : ℕ
yes_number = 0

-- "doesn't fit; none"
abbrev pub no_number : ℕ
no_number = 1

-- "budget spent"
abbrev pub spent_number : ℕ
spent_number = 2

-- "book under 11 or over 206 bytes"
abbrev pub book_length : ℕ
book_length = 10

-- "11 is then only the entry count", of document 01's "contents not as stated"
abbrev pub contents : ℕ
contents = 11

-- "bounds body not 3 bytes, or a byte over 6"; "Number 12 begins at 9"
abbrev pub bounds : ℕ
bounds = 12

-- "formula empty or not a multiple of 3"
abbrev pub formula_length : ℕ
formula_length = 13

-- "operator not 1 to 10"
abbrev pub operator : ℕ
operator = 14

-- "operand: variable over v, child not lower, b of 8 not 0"
abbrev pub operand : ℕ
operand = 15

-- "not a tree"
abbrev pub tree_shape : ℕ
tree_shape = 16

-- "model of wrong length; value out of range"
abbrev pub model_length : ℕ
model_length = 17

abbrev pub model_value : ℕ
model_value = 18

-- "formula not encodable"
abbrev pub not_encodable : ℕ
not_encodable = 19

-- "output too short: under v+n bytes for a search, whatever it would find; under the whole book for the encoder"
abbrev pub output_length : ℕ
output_length = 20

-- "assignment of wrong length; value out of range"
abbrev pub assignment_length : ℕ
assignment_length = 21

abbrev pub assignment_value : ℕ
assignment_value = 22

-- "23 a wrong kind, 24 a wrong offset or length" (document 02)
abbrev pub entry_kind : ℕ
entry_kind = 23

abbrev pub entry_stretch : ℕ
entry_stretch = 24

-- "A declared variable that no atom names" (document 02)
abbrev pub stray_variable : ℕ
stray_variable = 25

-- "26 bad text", "27 more than 64 nodes", "28 a seventh name" (document 02), which is the ninth: "a ninth name is refused"
abbrev pub bad_text : ℕ
bad_text = 26

abbrev pub many_nodes : ℕ
many_nodes = 27

abbrev pub many_names : ℕ
many_names = 28

-- "Each answer is a number, a place and a tried count (0 outside search)."
abbrev pub answer : ℕ → ℕ → Answer
answer m q = record { number = m; place = q; tried = 0 }
