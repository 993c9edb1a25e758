mod RepeatLemmas
mod StandingLemmas
