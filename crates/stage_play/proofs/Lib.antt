mod CatchLemmas
mod MemberLemmas
mod NoteLemmas
mod PlayLemmas
mod RoundLemmas
mod SightLemmas
mod UptoLemmas
