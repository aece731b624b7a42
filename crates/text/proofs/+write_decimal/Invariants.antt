use Rattle.text.proofs.+write_decimal.Given as goal

-- proposed from what the function passes where it calls itself
abbrev pub decreases-write_decimal : goal.decreases-write_decimal
decreases-write_decimal l = l.n
