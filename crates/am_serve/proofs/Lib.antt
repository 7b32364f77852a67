mod FewLemmas
mod HeadLemmas
mod ReadingLemmas
mod ReplyLemmas
mod SendLemmas
