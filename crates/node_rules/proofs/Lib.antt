mod Examples
mod QuietLemmas
