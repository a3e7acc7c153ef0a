-- What is printed of a certificate.
use Rattle.mkt_base.specs.Certificate as law
use Rattle.auction_check.specs.declared.certificate.Certificate.{Certificate}

-- its prices that are ruled out, and its outcome
abbrev pub shown : Certificate → law.Certificate
shown c = record { rejected = c.rejected; outcome = c.outcome }
