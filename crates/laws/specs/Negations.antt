-- Where septraction, operator 10, stands in a formula. Assumes nothing: these are definitions.
use Rattle.logic.specs.Formula.{Form}
use Rattle.logic.specs.Formula.Form.{same, diff, pts, ls, conj, disj, but, neg, sep, sept}

-- there is none
unfoldable pub NoSeptraction : Form → Type 0
NoSeptraction (same x y) = Unit {0}
NoSeptraction (diff x y) = Unit {0}
NoSeptraction (pts x y) = Unit {0}
NoSeptraction (ls x y) = Unit {0}
NoSeptraction (conj a b) = NoSeptraction a × NoSeptraction b
NoSeptraction (disj a b) = NoSeptraction a × NoSeptraction b
NoSeptraction (but a b) = NoSeptraction a × NoSeptraction b
NoSeptraction (neg a) = NoSeptraction a
NoSeptraction (sep a b) = NoSeptraction a × NoSeptraction b
NoSeptraction (sept a b) = ⊥

-- there is none "under a negation", which means "below operator 8 or in the b side of operator 7", at any depth
unfoldable pub NoneUnderNegation : Form → Type 0
NoneUnderNegation (same x y) = Unit {0}
NoneUnderNegation (diff x y) = Unit {0}
NoneUnderNegation (pts x y) = Unit {0}
NoneUnderNegation (ls x y) = Unit {0}
NoneUnderNegation (conj a b) = NoneUnderNegation a × NoneUnderNegation b
NoneUnderNegation (disj a b) = NoneUnderNegation a × NoneUnderNegation b
NoneUnderNegation (but a b) = NoneUnderNegation a × NoSeptraction b
NoneUnderNegation (neg a) = NoSeptraction a
NoneUnderNegation (sep a b) = NoneUnderNegation a × NoneUnderNegation b
NoneUnderNegation (sept a b) = NoneUnderNegation a × NoneUnderNegation b

-- operator 8 stands nowhere in a formula
unfoldable pub NoNegation : Form → Type 0
NoNegation (same x y) = Unit {0}
NoNegation (diff x y) = Unit {0}
NoNegation (pts x y) = Unit {0}
NoNegation (ls x y) = Unit {0}
NoNegation (conj a b) = NoNegation a × NoNegation b
NoNegation (disj a b) = NoNegation a × NoNegation b
NoNegation (but a b) = NoNegation a × NoNegation b
NoNegation (neg a) = ⊥
NoNegation (sep a b) = NoNegation a × NoNegation b
NoNegation (sept a b) = NoNegation a × NoNegation b
